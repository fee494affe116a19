-- A table whose rows are in pages: a look-up, a put and a removal look at few of them.
pub mod ByKeys
pub mod Clashes
pub mod Indexes
pub mod RowOrders
pub mod KeyLookup
pub mod StoredRows
