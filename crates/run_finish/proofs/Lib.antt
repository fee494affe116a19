pub mod LiveOnes
pub mod Parts
pub mod Staging
pub mod Turning
pub mod States
pub mod Beginnings
