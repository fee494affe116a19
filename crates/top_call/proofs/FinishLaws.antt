-- What is promised of every new tool: that its calls may be made, that its turns are sound, and that its verdict tells whether the table was altered.
pub mod Draws
pub mod Stated
