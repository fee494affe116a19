-- While a run hasn't ended some actor is ready.
pub mod Ends
pub mod Going
pub mod Idle
pub mod Actors
