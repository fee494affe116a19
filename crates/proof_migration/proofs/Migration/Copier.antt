-- The tool's machines as the ghost relation speaks of them: each turn of the copier's program keeps the relation.
pub mod Served
pub mod Knowing
pub mod Chunks
pub mod Rows
pub mod Copiers
