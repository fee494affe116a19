-- That a run in which nothing hinders the tool ends with the table altered.
pub mod Laws
pub mod Quiet
