-- That a run in which nothing hinders the tool ends with the table altered.
pub mod Smooth
pub mod Alone
pub mod Untouched
pub mod ReadingOn
pub mod Fits
pub mod Quiet
pub mod Accepted
pub mod Unblocked
pub mod Prompt
pub mod Uncarried
pub mod Unwaited
pub mod WaitsOver
