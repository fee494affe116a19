pub mod Inside
pub mod Ends
pub mod Following
pub mod Values
pub mod Numbers
pub mod Slices
pub mod Reprinted
pub mod NumberWords
