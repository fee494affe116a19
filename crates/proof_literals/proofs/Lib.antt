pub mod Finals
pub mod ReadBytes
pub mod ReadLimits
pub mod ReadScripts
pub mod Starts
