-- The row of least clustered key that clashes with a new one.
use Rattle.std.specs.Prelude.{ℕ, Bool, not, ◌&&◌, if◌then◌else◌, List, [], ◌∷◌, find, Option, Some, None}
use Rattle.std.specs.declared.cmp.Ordering.{Ordering}
use Rattle.std.specs.Ordering.{is_gt}
use Rattle.slab.specs.Slab.{Slab}
use Rattle.base_values.specs.declared.value.Value.{Value}
use Rattle.base_values.specs.KeyOrder.{compare_keys}
use Rattle.base_values.specs.GhoSchema.Rows.{key_of}
use Rattle.base_values.specs.GhoSchema.Tables.{no_null}
use Rattle.base_page_list.specs.Pages.{flat}
use Rattle.table_store.specs.RowLists.{is_at, is_besides}
use Rattle.table_store.specs.PagedTables.RowPages.RowOrders.{rows_of}
use Rattle.table_store.specs.declared.paged_tables.row_pages.indexes.KeyIndex.{KeyIndex}

-- the row has the key, and isn't that of the other key that is named
abbrev pub besides_test : List ℕ → List Value → List ℕ → List Value → List Value → Bool
besides_test first key second named row = is_at first key row && not (is_at second named row)

-- The row has the new one's values at these places, none of them null, and isn't that of the clustered key that is
-- named.
abbrev pub clashes_at : List ℕ → List ℕ → List Value → Option (List Value) → List Value → Bool
clashes_at clustered places new besides row = is_at places (key_of places new) row && no_null (key_of places new) && not (is_besides clustered besides row)

-- which of two rows comes first by the key at these places
abbrev pub by_key : List ℕ → List Value → List Value → Ordering
by_key places a b = compare_keys (key_of places a) (key_of places b)

-- the earlier of two rows, where there are two
abbrev pub earlier : (List Value → List Value → Ordering) → Option (List Value) → Option (List Value) → Option (List Value)
earlier cmp None other = other
earlier cmp (Some row) None = Some row
earlier cmp (Some row) (Some other) = if is_gt (cmp row other) then Some other else Some row

-- the earliest of the rows that the indexes find
abbrev pub earliest : List ℕ → List Value → Option (List Value) → Slab (List Value) → List KeyIndex → Option (List Value)
earliest clustered new besides slab [] = None
earliest clustered new besides slab (index ∷ indexes) =
    earlier (by_key clustered) (find (clashes_at clustered index.places new besides) (rows_of slab (flat index.entries.pages))) (earliest clustered new besides slab indexes)
