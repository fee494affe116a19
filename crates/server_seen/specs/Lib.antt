pub mod FittingChanges
pub mod GatheredRows
pub mod Laws
pub mod MergePlaces
pub mod Stored
pub mod Written
