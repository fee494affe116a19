-- The tool's machines as the ghost relation speaks of them: each turn of the copier's program keeps the relation.
pub mod CopierPlace
pub mod Laws
