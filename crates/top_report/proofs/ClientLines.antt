-- What a report says of clients.
pub mod Strangers
pub mod Walking
pub mod Stepping
pub mod Numbered
pub mod Passing
pub mod FoundReplies
pub mod Replying
pub mod Ending
