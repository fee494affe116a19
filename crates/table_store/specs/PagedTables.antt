pub mod PagedDatabases
pub mod RowPages
