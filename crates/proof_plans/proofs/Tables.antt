-- That the migrated table is found before each turn, and the old one kept behind the RENAME.
pub mod Refusing
pub mod Answering
pub mod Sparing
pub mod Turns
pub mod Found
pub mod Old
