-- What the committed tables and the open transactions over them keep, whatever is called.
pub mod Defined
pub mod Each
pub mod Ended
pub mod Grown
pub mod Rooms
pub mod Transactions
