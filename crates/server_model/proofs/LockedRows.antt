-- What holds of every statement: what it says depends on what its locks cover, and what it writes is covered by them.
pub mod Tests
pub mod Standing
pub mod OneRow
pub mod Points
pub mod Points2
pub mod Footprints
pub mod Covers
pub mod WellFormed
pub mod Sound
pub mod Finding
pub mod Stables
pub mod Sets
pub mod Counters
