-- Every workload is a plan.
pub mod Scripts
pub mod PlansRead
