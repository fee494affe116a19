-- In every journal that follows an alterable plan's program the new table becomes the altered one.
pub mod Laws
pub mod Turns
pub mod Hints
pub mod Holds
pub mod LockerTurns
pub mod InspectorTurns
pub mod BatchTurns
