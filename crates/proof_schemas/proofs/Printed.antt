-- What holds of the printed text of schemas.
pub mod Lexing
pub mod Numbers
pub mod Pieces
pub mod Reading
pub mod Tables
pub mod Written
