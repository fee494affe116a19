-- Whose the server's sessions are, and how the tool's course goes on turn by turn.
pub mod Laws
pub mod Runnable
pub mod Unaltered
pub mod Waits
pub mod Marked
pub mod Ready
pub mod Chunks
