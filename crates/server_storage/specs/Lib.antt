pub mod Ready
pub mod OpenTxns
pub mod KeptTxns
pub mod Storage
