pub mod Plain
pub mod Plans
