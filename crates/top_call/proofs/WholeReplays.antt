-- The replay of a plan that was read: what is promised of its journal.
pub mod AtOpening
pub mod SoundRuns
pub mod SoundReplays
