-- A run of a plan on a server, turn by turn.
pub mod Connecting
pub mod Counted
pub mod Results
pub mod Costs
pub mod Weights
