pub mod Refusals
pub mod RowTexts
pub mod Rows
pub mod Tables
