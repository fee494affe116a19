-- The open transactions of sessions: which session's each is, and how many rows their commits may put.
pub mod Open
