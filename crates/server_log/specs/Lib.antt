pub mod Laws
pub mod Decodings
pub mod Encodings
pub mod EventCosts
pub mod Logs
