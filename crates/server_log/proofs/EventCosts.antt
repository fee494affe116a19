pub mod Sums
pub mod TableEvents
