-- A table of rows in pages.
use Rattle.std.specs.Prelude.{◌≡◌, ◌<◌, ◌≤◌, ◌+◌, ◌-◌, ℕ, List, [], ◌∷◌, length, min}
use Rattle.std.specs.List.{AllByRecursion}
use Rattle.slab.specs.Slab.{Slab, slab_len}
use Rattle.base_values.specs.declared.value.Value.{Value}
use Rattle.base_page_list.specs.Pages.{InPages}
use Rattle.table_store.specs.Databases.{TableRows}
use Rattle.base_values.specs.declared.gho_schema.schema.Schema.{Schema}
use Rattle.base_values.specs.GhoSchema.Rows.{key_places}
use Rattle.table_store.specs.PagedTables.RowPages.RowOrders.{IsListed}
use Rattle.table_store.specs.PagedTables.RowPages.Indexes.{other_keys, keys_of, room_in, IsIndexed}
use Rattle.table_store.specs.declared.paged_tables.row_pages.indexes.KeyIndex.{KeyIndex}

-- Each entry has a row, and the rows are in order of the clustered key. Once there is room for a row, each other unique key has
-- its index.
pub record IsStored (schema : Schema) (slab : Slab (List Value)) (order : List ℕ) (indexes : List KeyIndex) : Type 0 where
  pub listed : IsListed (key_places schema) [] slab order
  pub held : slab_len slab ≤ slab.capacity
  pub indexed : AllByRecursion (IsIndexed (key_places schema) slab order) indexes
  pub keyed : 0 < slab.capacity → keys_of indexes ≡ other_keys schema

-- for how many more rows there is room
abbrev pub spare_of : Slab (List Value) → InPages → List KeyIndex → ℕ
spare_of slab order indexes = room_in indexes (min (slab.capacity - slab_len slab) order.spare)

-- What contracts see of a table: its schema and rows, the rows page by page, and for how many more rows it has room.
pub record PagedTable : Type 0 where
  pub table : TableRows
  pub pages : List (List (List Value))
  pub spare : ℕ

-- the page and the next have together more than 32 rows
abbrev pub DenseRows : List (List Value) → List (List (List Value)) → Type 0
DenseRows page [] = Unit {0}
DenseRows page (next ∷ pages) = 32 < length page + length next

-- Each page has 1 to 64 rows, and two neighbours have together more than 32.
abbrev pub ArePagesOfRows : List (List (List Value)) → Type 0
ArePagesOfRows [] = Unit {0}
ArePagesOfRows (page ∷ pages) = (0 < length page) × (length page ≤ 64) × DenseRows page pages × ArePagesOfRows pages
