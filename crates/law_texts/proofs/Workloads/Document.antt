-- What the text of the workload of every number is.
pub mod Digits
pub mod Texts
pub mod Bytes
pub mod StringsRead
pub mod ArraysRead
pub mod Spelled
pub mod Sizes
pub mod DocumentRead
pub mod KeysRead
