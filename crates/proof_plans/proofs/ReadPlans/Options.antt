-- What the options of every accepted plan allow.
pub mod Allowed
