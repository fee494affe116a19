pub mod ShownTables
