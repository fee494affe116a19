-- The copier's and the applier's turns leave the cut-over what the sentry relation asks.
pub mod Resting
pub mod Drained
pub mod Turns
