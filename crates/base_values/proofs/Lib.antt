pub mod Characters
pub mod Escapes
pub mod NameHeads
pub mod Orders
mod Prefixes
pub mod PrintedValues
pub mod SpanLaws
pub mod StoredValues
pub mod TextNumbers
pub mod GhoSchema
pub mod RowConversion
pub mod SchemaRules
