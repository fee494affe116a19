pub mod Clients
pub mod Openings
pub mod Orders
pub mod Plans
pub mod Refusals
pub mod Walks
pub mod PlanTables
