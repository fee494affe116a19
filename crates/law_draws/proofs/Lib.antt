mod AllTables
mod AskedCounters
mod Carried
mod CarriedTurns
mod ColumnValues
mod Exchange
mod LockedCounters
mod Migrated
mod NewTable
mod Numbers
pub mod OtherTables
pub mod ReadPlans
mod Renames
mod Schemas
mod Served
mod SmallNumbers
mod Sparing
mod Starting
