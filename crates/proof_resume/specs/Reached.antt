pub mod Coverage
pub mod ChunkEnds
pub mod Checkpoints
pub mod Laws
