-- The names that a request mentions, who blocks one, and the list of waits.
pub mod Bare
