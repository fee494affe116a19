-- The ghost relation on rows, events and converted rows: what every step of the copier, the applier and the clients keeps,
-- whatever their order.
pub mod Moments
pub mod Counts
pub mod Changes
pub mod Timelines
pub mod Views
pub mod Disjoint
pub mod UnderWay
pub mod Laws
