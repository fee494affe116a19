pub mod HintRows
pub mod LeastCauses
pub mod Refusals
pub mod Sums
