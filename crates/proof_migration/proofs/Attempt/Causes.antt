-- That what a verdict names stands in the journal.
pub mod Sentry
pub mod Spent
