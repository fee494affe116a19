-- The inspector's turns are such turns as the sentry relation asks.
pub mod Fitting
pub mod Keeping
pub mod Hints
pub mod Inspectors
