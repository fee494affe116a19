pub mod Answers
pub mod Chunks
pub mod Batches
pub mod Totals
