pub mod Invariants
pub mod Grants
pub mod Laws
