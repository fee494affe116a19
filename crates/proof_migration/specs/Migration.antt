-- The copier, the applier and all other sessions together: over journals that follow the program the ghost relation is kept, and at the end the new table is the altered one.
pub mod Away
pub mod Machines
pub mod Laws
pub mod Planning
pub mod Copier
pub mod Applier
