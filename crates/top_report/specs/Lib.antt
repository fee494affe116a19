pub mod Verdicts
pub mod Tables
pub mod Turns
pub mod Runs
pub mod Reports
pub mod ClientLines
