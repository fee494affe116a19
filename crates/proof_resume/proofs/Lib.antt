pub mod Reached
pub mod Settled
pub mod Finish
pub mod Starts
