pub mod KeptRows
pub mod MigratedTables
pub mod PlanData
pub mod PlanOptions
pub mod PlanParts
