pub mod Heartbeats
pub mod Readings
pub mod Laws
