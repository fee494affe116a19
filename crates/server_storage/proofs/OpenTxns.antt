-- The open transactions of sessions: which session's each is, and how many rows their commits may put.
pub mod OpenRows
pub mod OpenTxns
pub mod Changed
