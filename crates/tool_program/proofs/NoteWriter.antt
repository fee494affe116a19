pub mod Counts
pub mod LostNotes
pub mod Rows
