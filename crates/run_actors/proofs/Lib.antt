pub mod ActorPlaces
pub mod AlterTurns
pub mod Marking
pub mod More
pub mod ClientTurns
pub mod Renamings
pub mod SameActors
