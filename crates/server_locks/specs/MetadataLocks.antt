pub mod Grants
pub mod LockTable
pub mod Laws
pub mod Requests
pub mod SameNames
pub mod WaitQueue
