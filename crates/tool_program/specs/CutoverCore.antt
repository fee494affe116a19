-- The cut-over: the attempts to exchange two tables by one RENAME, and what is cleared up after them.
pub mod Attempts
pub mod CutOvers
pub mod CutOverCalls
