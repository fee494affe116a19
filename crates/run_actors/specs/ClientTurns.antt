-- How far a client is in its script, and what it asks next.
pub mod ActorStates
pub mod DrawnLines
pub mod ClientCalls
