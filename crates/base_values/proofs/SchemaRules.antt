-- What a table of this program may have: how long names are and which are one, what defaults are stored, and *lawful schemas*.
pub mod FreeNames
pub mod Lists
pub mod Loops
pub mod SameNames
pub mod Steps
