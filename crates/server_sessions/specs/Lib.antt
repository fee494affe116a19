pub mod SessionLocks
pub mod LiveSessions
