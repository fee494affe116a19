-- The replay of a plan: its turns are taken in their order, until its run is over.
pub mod Marks
pub mod Places
pub mod Replays
