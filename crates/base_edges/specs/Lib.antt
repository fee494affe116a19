pub mod Edges
pub mod Memory
pub mod StdEdges
pub mod Whole
