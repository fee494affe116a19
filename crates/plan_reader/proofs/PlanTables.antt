pub mod Putting
pub mod Reading
pub mod RowFits
pub mod RowValues
pub mod Sound
