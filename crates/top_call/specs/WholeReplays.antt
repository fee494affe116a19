-- The replay of a plan that was read: what is promised of its journal.
pub mod Replays
pub mod SoundRuns
