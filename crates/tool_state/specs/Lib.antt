pub mod Seen
pub mod Feeds
pub mod ToolState
pub mod Verdicts
pub mod NextCalls
