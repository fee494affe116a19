pub mod ActorMarks
pub mod Leasts
pub mod Outcomes
pub mod Replies
pub mod TraceClients
pub mod TurnsSeen
