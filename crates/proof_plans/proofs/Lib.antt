pub mod Accepted
pub mod Complete
pub mod Tables
pub mod ReadPlans
