pub mod SchemaText
