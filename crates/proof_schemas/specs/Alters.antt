-- What holds of all ALTERs that are taken.
pub mod Laws
pub mod ReadAgain
