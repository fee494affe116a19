-- What holds of every accepted plan.
pub mod Accepted
pub mod Named
