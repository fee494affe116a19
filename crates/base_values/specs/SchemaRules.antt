-- What a table of this program may have: how long names are and which are one, what defaults are stored, and *valid schemas*.
pub mod Defaults
pub mod Valid
pub mod Limits
pub mod Names
pub mod Reasons
pub mod Results
