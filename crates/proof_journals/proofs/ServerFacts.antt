pub mod Created
pub mod Kept
pub mod Granted
pub mod Effects
pub mod Waits
pub mod Calls
