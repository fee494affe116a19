pub mod ReadLines
pub mod Scanning
