pub mod ChangedRows
pub mod FittingChanges
pub mod FoundRows
pub mod NewKeys
pub mod Shown
pub mod UpdatedRows
pub mod StatementWork
