-- A run whose turns worker threads take in one turn queue: each turn is that of the actor that the rule gives its worker.
pub mod ActorStates
pub mod FirstWanted
pub mod Listing
pub mod Owning
pub mod Picking
pub mod Rotating
pub mod Waiting
pub mod Working
