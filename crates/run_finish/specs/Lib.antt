pub mod Sessions
pub mod FinishRuns
pub mod Invariants
