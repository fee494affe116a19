-- Schemas of tables, and the order in which a table keeps its rows.
pub mod AutoIncrement
pub mod ClusteredKey
pub mod KeyedRows
pub mod Laws
pub mod Names
pub mod Options
pub mod Rows
pub mod Tables
