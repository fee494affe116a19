-- What holds of a run turn by turn.
pub mod Counts
pub mod Kept
pub mod Laws
