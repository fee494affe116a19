pub mod Replies
pub mod Pasts
pub mod Walks
