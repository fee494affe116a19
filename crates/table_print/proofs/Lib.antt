pub mod SortedNames
pub mod Steps
