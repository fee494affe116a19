-- The applier as the ghost relation speaks of it: each turn of its program keeps the relation.
pub mod Names
pub mod NamedOnce
pub mod Keys
pub mod Statements
pub mod Answers
pub mod Planning
pub mod Knowing
pub mod NextStatement
pub mod Busy
pub mod Appliers
pub mod Stated
