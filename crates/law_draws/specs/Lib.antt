pub mod AllTables
pub mod ColumnValues
pub mod LockedCounters
pub mod Numbers
pub mod OtherTables
pub mod SmallNumbers
