-- An order that a report prints is replayed.
pub mod Programs
pub mod Verdicts
pub mod Orders
pub mod Replicas
