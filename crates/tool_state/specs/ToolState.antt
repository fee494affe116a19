-- How far the whole tool is: its setup, its operator, its three machines, the turns in which its tasks failed and why all is reverted, as a small record.
pub mod TryTurns
pub mod Meanings
pub mod Sound
