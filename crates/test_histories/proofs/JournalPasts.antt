pub mod Clients
pub mod Lines
pub mod Whole
