-- What the text of the workload of every number is.
pub mod Texts
pub mod Plans
pub mod Laws
