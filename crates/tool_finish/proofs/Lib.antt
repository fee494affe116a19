pub mod LostNotes
pub mod Machines
pub mod Holding
pub mod Walking
