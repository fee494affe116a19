pub mod Finishes
pub mod Checkpoints
pub mod Callable
pub mod Stages
pub mod WholeJournals
