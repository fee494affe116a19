-- In every journal that is kept the RENAME is done once at most.
pub mod Past
pub mod Renames
pub mod Whole
