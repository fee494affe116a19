pub mod Conversions
pub mod Converting
pub mod Following
pub mod Found
pub mod Joining
pub mod Unfit
