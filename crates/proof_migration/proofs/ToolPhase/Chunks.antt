-- Chunks are as small as the operator asks.
pub mod Sparing
pub mod Uncopied
pub mod Sizes
pub mod Onlines
