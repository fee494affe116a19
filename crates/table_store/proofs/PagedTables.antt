pub mod Paged
pub mod TableNames
pub mod RowPages
