-- The clauses of ALTER TABLE, and what they make of a table's rows.
pub mod ConvertedRows
