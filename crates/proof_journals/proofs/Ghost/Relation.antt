-- The ghost relation: while rows are copied and events applied in any order, each row of the new table is the image of its row at a moment that the applier hasn't passed.
pub mod Tests
pub mod Events
pub mod OneView
pub mod Statements
pub mod Carrying
pub mod AllViews
