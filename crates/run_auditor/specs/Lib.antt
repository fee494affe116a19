pub mod AllClients
pub mod AloneSessions
pub mod Auditing
pub mod Judging
pub mod PrintedTables
