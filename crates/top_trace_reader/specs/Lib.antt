pub mod Lines
pub mod Literals
pub mod Turns
pub mod Verdicts
pub mod Readings
pub mod Refusals
pub mod Traces
