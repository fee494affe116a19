pub mod Digits
pub mod Taking
pub mod Commands
pub mod MatchFacts
