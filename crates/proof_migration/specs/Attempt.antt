-- What an attempt's requests are answered, and what they leave of the tables.
pub mod Laws
pub mod Verdicts
pub mod Causes
pub mod Renamed
