pub mod Clients
pub mod Givens
pub mod Keeping
pub mod ActorStates
pub mod FirstStates
pub mod Seen
