pub mod AppliedRows
pub mod ChunkLocks
pub mod CutOverOrder
pub mod LeastCauses
pub mod Laws
