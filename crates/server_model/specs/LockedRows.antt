-- What holds of every statement: what it says depends on what its locks cover, and what it writes is covered by them.
pub mod Agreement
pub mod Coverage
pub mod Databases
pub mod Stability
pub mod Laws
pub mod Counters
