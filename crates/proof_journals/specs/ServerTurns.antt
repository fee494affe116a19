-- What one turn of a session leaves to the others: names, waits, rows under locks, and the tables that exist.
pub mod Others
