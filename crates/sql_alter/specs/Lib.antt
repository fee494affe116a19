pub mod Additions
pub mod Clauses
pub mod Column
pub mod Pieces
pub mod AlterText
pub mod Removals
