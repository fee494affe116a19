-- What holds of all ALTERs that are taken.
pub mod Apart
pub mod Clauses
pub mod ConvertedRowRows
pub mod ConvertedRowTables
pub mod ConvertedRows
pub mod Keeping
pub mod KeepingKeys
pub mod KeepingLaws
pub mod Places
pub mod Steps
pub mod TableNames
pub mod Traces
pub mod ReadAgain
pub mod Counting
