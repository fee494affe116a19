pub mod Documents
pub mod Known
pub mod Limits
pub mod Options
pub mod PlanKeys
pub mod Refusals
pub mod Walks
