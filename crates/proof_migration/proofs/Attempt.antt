-- What an attempt's requests are answered, and what they leave of the tables.
pub mod Leaving
pub mod Blocking
pub mod Stages
pub mod LockerAnswers
pub mod RenamerAnswers
pub mod InspectorAnswers
pub mod SetupAnswers
pub mod Standing
pub mod Verdicts
pub mod Causes
pub mod Renamed
pub mod Counting
