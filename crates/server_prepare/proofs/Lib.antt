pub mod Beside
pub mod Fronts
pub mod Placed
pub mod DrawnRows
