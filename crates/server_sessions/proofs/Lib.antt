pub mod Edited
pub mod SessionLocks
pub mod LiveSessions
