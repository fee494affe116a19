-- The locker's and the renamer's turns are such turns as the sentry relation asks.
pub mod Quiet
pub mod Apart
pub mod Entries
pub mod Lockers
pub mod Renamers
