-- What every accepted plan has, so that the laws over journals speak of it.
pub mod Commands
pub mod Names
pub mod Numbers
pub mod Parts
pub mod Plans
pub mod Scripts
pub mod Tables
pub mod Schemas
pub mod Stated
pub mod Declared
pub mod Options
