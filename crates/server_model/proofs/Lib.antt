pub mod LockedRows
pub mod Filling
pub mod LostCalls
pub mod Raising
