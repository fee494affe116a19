-- Which names each actor's session holds and waits for, after every journal that is kept.
pub mod SessionNames
pub mod Unblocked
pub mod Holders
pub mod FreeNames
pub mod Changelog
