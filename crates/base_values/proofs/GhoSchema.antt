-- Schemas of tables, and the order in which a table keeps its rows.
pub mod Orders
pub mod RowMap
pub mod Loops
