pub mod Following
pub mod Halves
pub mod Numbers
pub mod Ranges
pub mod SeenRows
pub mod Unions
