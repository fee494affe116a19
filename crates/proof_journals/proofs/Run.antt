-- What holds of a run turn by turn.
pub mod Numbering
pub mod Tallies
pub mod Turns
pub mod Living
pub mod Waits
pub mod Taking
pub mod Keeping
