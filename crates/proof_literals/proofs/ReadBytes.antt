-- The texts of a plan that was read are made of bytes, from its document on.
pub mod Documents
pub mod Keys
pub mod Plans
pub mod Rows
pub mod Schemas
pub mod Scripts
pub mod Steps
pub mod Strings
