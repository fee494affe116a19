-- A table whose rows stand in pages: a look-up, a put and a removal look at few of them.
pub mod ByKeys
pub mod ClashTests
pub mod FirstRows
pub mod Indexing
pub mod PutLast
pub mod Reserving
pub mod RowPlaces
pub mod SpanPlaces
pub mod TableClash
pub mod TablePages
pub mod Zipped
