mod Steps
pub mod RunTurns
pub mod DueTurns
pub mod InHand
pub mod Replicas
pub mod Holding
pub mod FeedRuns
