mod CopiedTables
mod Sets
mod UpdateFacts
