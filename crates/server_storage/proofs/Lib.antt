pub mod Outcomes
pub mod SpanLocks
pub mod OpenTxns
pub mod KeptTxns
