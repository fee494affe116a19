-- What the ghost relation asks of a migration holds of every ALTER that is taken.
pub mod OldPlaces
pub mod Planned
