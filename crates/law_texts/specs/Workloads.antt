pub mod Rows
pub mod Alters
pub mod Scripts
pub mod Laws
pub mod Document
pub mod Plans
