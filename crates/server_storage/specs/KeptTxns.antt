-- What the committed tables and the open transactions over them keep, whatever is called.
pub mod Kept
pub mod Laws
pub mod Transactions
