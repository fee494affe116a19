-- What one turn of a session leaves to the others: names, waits, rows under locks, and the tables that stand.
pub mod Others
pub mod Alone
pub mod Locking
pub mod Agreements
pub mod Spans
pub mod Beginning
pub mod Defining
pub mod Holding
