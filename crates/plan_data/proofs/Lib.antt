pub mod KeyedSchemas
