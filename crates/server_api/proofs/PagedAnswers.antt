pub mod Cuts
pub mod LastRows
pub mod Lists
pub mod Shown
