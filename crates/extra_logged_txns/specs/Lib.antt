pub mod Logged
pub mod Puts
