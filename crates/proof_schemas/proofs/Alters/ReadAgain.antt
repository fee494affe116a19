-- That the printed text of an altered schema is read as that schema.
pub mod Clauses
pub mod Declared
pub mod Names
pub mod Prints
pub mod Whole
