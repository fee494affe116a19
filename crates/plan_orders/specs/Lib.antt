pub mod Actors
pub mod Losses
pub mod Numbers
pub mod Operators
pub mod Refusals
pub mod Words
pub mod TurnOrder
