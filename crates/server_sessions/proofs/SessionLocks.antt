-- The names that a request mentions, who blocks one, and the list of waits.
pub mod Distinct
pub mod Mentioned
pub mod Pairs
pub mod Places
pub mod Shown
