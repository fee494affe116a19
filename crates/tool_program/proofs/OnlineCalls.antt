-- What holds of the tool's program.
pub mod Keeping
pub mod Naming
pub mod Machines
pub mod Asking
pub mod Given
