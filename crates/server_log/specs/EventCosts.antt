pub mod Costs
pub mod TableEvents
