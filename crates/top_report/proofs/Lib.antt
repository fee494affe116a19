pub mod Left
pub mod Joining
pub mod ClientLines
