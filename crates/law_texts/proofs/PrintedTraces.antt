pub mod Lines
pub mod Rows
pub mod Turns
pub mod Verdicts
pub mod Readings
pub mod Tables
pub mod Whole
