-- What holds of the printed text of schemas.
pub mod Laws
pub mod Words
