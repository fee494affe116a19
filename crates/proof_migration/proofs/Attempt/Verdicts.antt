-- A revert's cause stands in the journal.
pub mod Attempts
pub mod Limits
pub mod Waits
pub mod Tries
pub mod Reasons
pub mod Standing
