pub mod Ascending
pub mod PageLists
pub mod PageEdits
pub mod PagePlaces
pub mod PageRuns
pub mod Tested
