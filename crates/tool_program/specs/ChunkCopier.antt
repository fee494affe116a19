-- The copier: it copies the rows of a table chunk by chunk, in order of the clustered key.
pub mod Copiers
pub mod CopierFacts
pub mod Reaches
pub mod CopyCalls
