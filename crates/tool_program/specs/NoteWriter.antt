pub mod Notes
pub mod NoteRows
