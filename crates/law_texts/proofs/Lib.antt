pub mod Numerals
pub mod TurnOrders
pub mod Workloads
pub mod PrintedTraces
