-- What every accepted plan has, so that the laws over journals speak of it.
pub mod Laws
pub mod Schemas
pub mod Options
