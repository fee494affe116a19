pub mod AlteredSchema
pub mod ClauseResults
pub mod Codes
pub mod Columns
pub mod IndexClauses
pub mod Places
pub mod AlteredSoFar
