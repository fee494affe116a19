pub mod NameMaps
pub mod Loans
