pub mod Bounds
pub mod Causes
pub mod HintRows
pub mod Orders
pub mod Refusals
