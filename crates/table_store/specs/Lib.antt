pub mod ClusteredKeys
pub mod Databases
pub mod Laws
pub mod RowLists
pub mod NameMap
pub mod PagedTables
