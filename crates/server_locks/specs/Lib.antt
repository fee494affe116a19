pub mod LeastSession
pub mod RowLocks
pub mod MetadataLocks
