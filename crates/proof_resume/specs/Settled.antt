-- The new table as a new tool finds it: the ghost relation with nothing open, what keeps it, and what starts from it.
pub mod NewTable
pub mod Ranges
pub mod QuietRequests
pub mod SettlingTurns
pub mod Alone
pub mod Laws
pub mod ResumeLaws
