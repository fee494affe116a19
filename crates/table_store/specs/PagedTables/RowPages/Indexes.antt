-- The indexes of a table's unique keys, but for the clustered one.
use Rattle.std.specs.Prelude.{◌≡◌, ◌<◌, ◌≤◌, ◌+◌, ◌++◌, suc, ℕ, List, [], ◌∷◌, length, map, min, take, drop, insert, remove, Option, Some, None}
use Rattle.slab.specs.Slab.{Slab}
use Rattle.base_values.specs.declared.value.Value.{Value}
use Rattle.base_values.specs.declared.gho_schema.schema.Schema.{Schema}
use Rattle.base_values.specs.declared.gho_schema.schema.Index.{Index}
use Rattle.base_values.specs.GhoSchema.ClusteredKey.{clustered_place}
use Rattle.base_page_list.specs.Pages.{flat}
use Rattle.base_page_list.specs.Orders.{Ascending, Has}
use Rattle.table_store.specs.PagedTables.RowPages.RowOrders.{row_of, rows_of, compare_by, place_by, IsListed}
use Rattle.table_store.specs.declared.paged_tables.row_pages.indexes.KeyIndex.{KeyIndex}

-- the unique keys but the one at this place
abbrev pub all_but : Option ℕ → List Index → List Index
all_but None uniques = uniques
all_but (Some n) uniques = take n uniques ++ drop (suc n) uniques

-- the places of the columns of each unique key but the clustered one
abbrev pub other_keys : Schema → List (List ℕ)
other_keys schema = map (λ unique. unique.places) (all_but (clustered_place schema) schema.uniques)

-- the places of the columns of each index
abbrev pub keys_of : List KeyIndex → List (List ℕ)
keys_of indexes = map (λ index. index.places) indexes

-- the index is in order of its own key and then of the clustered one
abbrev pub IsOwnListed : List ℕ → Slab (List Value) → KeyIndex → Type 0
IsOwnListed clustered slab index = IsListed index.places clustered slab (flat index.entries.pages)

-- The index has the entries of the clustered order, in order of its own key and then of the clustered one. Rows whose
-- key has a null are among them (MySQL's manual, "CREATE INDEX Statement", "Unique Indexes": any number of them).
pub record IsIndexed (clustered : List ℕ) (slab : Slab (List Value)) (order : List ℕ) (index : KeyIndex) : Type 0 where
  pub listed : IsOwnListed clustered slab index
  pub there : (entry : ℕ) → Has order entry → Has (flat index.entries.pages) entry
  pub here : (entry : ℕ) → Has (flat index.entries.pages) entry → Has order entry

-- for how many more rows the indexes have room, where the rows themselves have this room
abbrev pub room_in : List KeyIndex → ℕ → ℕ
room_in [] room = room
room_in (index ∷ indexes) room = min index.entries.spare (room_in indexes room)

-- the index is in order, and has room for one more entry
pub record IsReady (slab : Slab (List Value)) (clustered : List ℕ) (index : KeyIndex) : Type 0 where
  pub ascends : Ascending (compare_by index.places clustered) (rows_of slab (flat index.entries.pages))
  pub room : 0 < index.entries.spare

-- the entry is put in its place
pub record IsAdded (slab : Slab (List Value)) (clustered : List ℕ) (entry : ℕ) (old new : KeyIndex) : Type 0 where
  pub places : new.places ≡ old.places
  pub entries : flat new.entries.pages ≡ insert (flat old.entries.pages) (place_by old.places clustered (row_of slab entry) (rows_of slab (flat old.entries.pages))) entry
  pub spare : new.entries.spare + 1 ≡ old.entries.spare

-- the index is in order, and has the entry
pub record IsHolding (slab : Slab (List Value)) (clustered : List ℕ) (entry : ℕ) (index : KeyIndex) : Type 0 where
  pub ascends : Ascending (compare_by index.places clustered) (rows_of slab (flat index.entries.pages))
  pub has : Has (flat index.entries.pages) entry

-- the entry is taken out of its place
pub record IsTaken (slab : Slab (List Value)) (clustered : List ℕ) (entry : ℕ) (old new : KeyIndex) : Type 0 where
  pub places : new.places ≡ old.places
  pub entries : flat new.entries.pages ≡ remove (flat old.entries.pages) (place_by old.places clustered (row_of slab entry) (rows_of slab (flat old.entries.pages)))
  pub spare : new.entries.spare ≡ old.entries.spare + 1

-- the index is as it was, with no less room
pub record IsSame (old new : KeyIndex) : Type 0 where
  pub places : new.places ≡ old.places
  pub pages : new.entries.pages ≡ old.entries.pages
  pub spare : old.entries.spare ≤ new.entries.spare

-- the index is as it was, and has room for this many entries in all
pub record IsWide (total : ℕ) (old new : KeyIndex) : Type 0 where
  pub same : IsSame old new
  pub wide : total ≤ length (flat new.entries.pages) + new.entries.spare

-- the index has no entries
abbrev pub IsEmptyIndex : KeyIndex → Type 0
IsEmptyIndex index = index.entries.pages ≡ []
