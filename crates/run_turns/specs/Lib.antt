pub mod Runs
pub mod RunTurns
pub mod DueTurns
pub mod InHand
pub mod Replicas
pub mod FeedRuns
