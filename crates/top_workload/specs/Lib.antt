pub mod Draws
pub mod Workloads
