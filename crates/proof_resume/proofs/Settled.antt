-- The new table as a new tool finds it: the ghost relation with nothing open, what keeps it, and what starts from it.
pub mod NewTable
pub mod KeptAway
pub mod QuietTurns
pub mod Lefts
pub mod Running
pub mod Through
pub mod Starting
pub mod RollingBack
pub mod Waits
pub mod Setups
pub mod Thirds
pub mod Reverting
pub mod Checkpoints
pub mod Resuming
pub mod Alone
