pub mod FoundWork
pub mod Laws
pub mod ReadyResult
pub mod RowUpdates
