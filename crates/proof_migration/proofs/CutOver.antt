-- Each turn is a turn of the cut-over, so that by the sentry relation the RENAME comes at the mark.
pub mod Clients
pub mod Commands
pub mod Renames
