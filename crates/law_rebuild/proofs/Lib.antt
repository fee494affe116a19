pub mod Exchanged
pub mod Growing
mod Leading
pub mod Marked
mod Rebuilding
mod Standing
mod Together
pub mod ToolCalls
