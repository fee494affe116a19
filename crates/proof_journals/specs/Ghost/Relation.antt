-- The ghost relation: while rows are copied and events applied in any order, each row of the new table is its row, converted,
-- as it was at a moment that the applier hasn't passed.
pub mod Timelines
pub mod Views
pub mod AppliedEvents
pub mod Laws
