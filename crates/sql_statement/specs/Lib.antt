pub mod Codes
pub mod Conditions
pub mod Lines
pub mod Pieces
pub mod Rows
pub mod Scope
pub mod Scripts
pub mod Statements
