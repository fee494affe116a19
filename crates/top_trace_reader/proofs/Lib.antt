pub mod Places
pub mod ReadLines
pub mod Endings
