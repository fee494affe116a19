pub mod Holding
pub mod Asking
pub mod Reading
pub mod Choosing
pub mod Behind
pub mod GoingOn
