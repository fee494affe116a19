-- What the turn that is due may ask of the server, and that the range of keys that it is told is known before it.
pub mod Ends
pub mod Telling
pub mod Asking
