pub mod Checkpoints
pub mod Heartbeats
pub mod ToolTables
pub mod Hints
