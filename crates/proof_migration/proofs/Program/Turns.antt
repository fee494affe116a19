-- Each turn of a journal that follows the program is one of the migration's, so that the ghost relation goes on to the mark.
pub mod Effects
pub mod Reverting
pub mod ActorStates
pub mod Sizes
pub mod Asked
pub mod NextCalls
pub mod Others
pub mod Follows
pub mod Takes
pub mod Goes
pub mod GoingOn
