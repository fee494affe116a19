pub mod Audits
pub mod Checks
pub mod Endings
pub mod Rebuilt
pub mod Texts
