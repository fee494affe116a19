pub mod HeldLocks
pub mod LockTable
pub mod SameBlockers
