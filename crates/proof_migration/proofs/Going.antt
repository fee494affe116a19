-- While a run hasn't ended some actor is ready.
pub mod Drains
pub mod Goes
