-- The applier: it applies what was logged of a table to the table that replaces it, batch by batch.
pub mod Appliers
pub mod BatchPlans
