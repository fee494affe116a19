pub mod Boundaries
pub mod Gathering
pub mod Lists
pub mod WordValues
