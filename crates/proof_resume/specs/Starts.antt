pub mod Beginnings
pub mod Readings
pub mod Laws
