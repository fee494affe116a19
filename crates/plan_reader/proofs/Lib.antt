pub mod Opened
pub mod Walks
pub mod PlanTables
