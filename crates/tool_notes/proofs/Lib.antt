pub mod Literals
pub mod Lexing
pub mod Rows
pub mod Worked
