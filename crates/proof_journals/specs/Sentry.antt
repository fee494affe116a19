-- The sentry relation: where the tool's RENAME may run, the sentry exists, or all of the table is in the new one and nobody
-- else holds it.
pub mod Laws
pub mod Sentries
pub mod TurnResults
pub mod Turns
