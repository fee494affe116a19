pub mod OnlineCalls
pub mod Replay
pub mod EventApplier
pub mod NoteWriter
pub mod JournalWords
pub mod ToolSetup
