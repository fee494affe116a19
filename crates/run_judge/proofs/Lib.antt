pub mod ComparedReplies
pub mod DrawnClients
pub mod FollowedClients
pub mod LeastTurns
pub mod LineOutcomes
pub mod Marks
pub mod SeenTurns
