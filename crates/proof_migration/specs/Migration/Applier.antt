-- The applier as the ghost relation speaks of it: each turn of its program keeps the relation.
pub mod FoundColumns
pub mod ApplierPlace
pub mod Laws
