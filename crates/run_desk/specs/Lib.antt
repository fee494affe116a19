pub mod Turns
pub mod Views
pub mod Rule
pub mod Steps
pub mod Boards
pub mod TurnQueueWorkers
