-- That the printed text of a schema is read as that schema.
pub mod Differ
pub mod Parted
pub mod ReadDeclared
pub mod Reread
pub mod Sorted
pub mod Sound
pub mod SoundReaders
pub mod SoundSchemas
pub mod SoundTables
pub mod SoundValues
