-- That a row without an image, as a verdict names it, stands.
pub mod Grounds
pub mod Known
pub mod Refusals
pub mod Copies
pub mod Applies
pub mod Turns
pub mod Rows
