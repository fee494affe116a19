-- The ghost relation under the server's locks: what the grants give of it, and that every turn of the copier, the applier and the clients keeps it.
pub mod HeldKeys
pub mod FittingEvents
pub mod Joined
pub mod Invariant
pub mod Given
pub mod Doings
pub mod OwnChanges
pub mod Statements
pub mod Tool
pub mod ToolTurns
pub mod Copies
pub mod EffectStates
pub mod Laws
pub mod Relation
pub mod Rows
