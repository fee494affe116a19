-- The copier, the applier and all other sessions together: over journals that follow the program the ghost relation is kept, and at the end the new table is the altered one.
pub mod Granted
pub mod Leaves
pub mod Others
pub mod Moving
pub mod Migrating
pub mod Planning
pub mod Copier
pub mod Applier
