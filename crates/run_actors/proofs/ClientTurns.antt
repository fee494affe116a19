-- How far a client is in its script, and what it asks next.
pub mod Drawn
pub mod DrawnLines
pub mod DrawnTurns
pub mod Heard
pub mod Lines
