-- The row locks that a statement's work needs, of a table as a transaction sees it.
pub mod Pieces
