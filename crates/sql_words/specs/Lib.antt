pub mod Characters
pub mod Quoted
pub mod Front
pub mod Readings
pub mod Meanings
pub mod Printed
