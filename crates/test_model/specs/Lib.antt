pub mod AnswerAndChanges
pub mod RowUpdates
