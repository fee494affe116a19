-- What the turn that is due may ask of the server, and that the range of keys that it gets is known before it.
pub mod Ranges
pub mod Laws
