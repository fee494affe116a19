-- A run of a plan on a server, turn by turn.
pub mod Requests
pub mod Sessions
pub mod ServerTurns
pub mod FreeTurns
