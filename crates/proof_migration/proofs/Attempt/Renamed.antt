-- How far an attempt is once the RENAME is done.
pub mod Seen
