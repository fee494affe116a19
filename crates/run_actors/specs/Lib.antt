pub mod ActorStates
pub mod ClientTurns
pub mod Renamings
