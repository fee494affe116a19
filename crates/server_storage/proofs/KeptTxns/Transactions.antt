-- What holds of a session's transaction while it and the others go on: it stays one of the database's.
pub mod Kept
pub mod Moved
