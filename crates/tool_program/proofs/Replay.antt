-- That a plan has one replay.
pub mod Turns
pub mod Replays
