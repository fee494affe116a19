pub mod Books
pub mod NextAsked
