-- What the program of an alterable plan may ask.
pub mod Origins
pub mod Plans
