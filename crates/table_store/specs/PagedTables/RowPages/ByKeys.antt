-- Rows by any unique key.
use Rattle.std.specs.Prelude.{◌≡◌, ◌⊎◌, ℕ, true, List, [], ◌∷◌, find, Option}
use Rattle.slab.specs.Slab.{Slab}
use Rattle.base_values.specs.declared.value.Value.{Value}
use Rattle.base_values.specs.declared.span.Span.{Span}
use Rattle.base_values.specs.Spans.{has}
use Rattle.base_values.specs.GhoSchema.Rows.{key_of, key_places, places_at}
use Rattle.base_page_list.specs.Pages.{InPages}
use Rattle.table_store.specs.RowLists.{is_at}
use Rattle.table_store.specs.Databases.{TableRows}
use Rattle.base_page_list.specs.Orders.{Ascending}
use Rattle.table_store.specs.PagedTables.RowPages.RowOrders.{compare_by}
use Rattle.table_store.specs.PagedTables.RowPages.Indexes.{IsIndexed}

-- the row of least clustered key that has these values in the columns of the unique key of this number
abbrev pub row_by : ℕ → TableRows → List Value → Option (List Value)
row_by n table key = find (is_at (places_at table.schema n) key) table.rows

-- the row is one of these
abbrev pub HasRow : List (List Value) → List Value → Type 0
HasRow [] row = ⊥
HasRow (first ∷ rows) row = (first ≡ row) ⊎ HasRow rows row

-- The rows are those of the table whose values at these places lie in the span. They are in order of these, and where two tie,
-- of the clustered key (MySQL's manual, "Clustered and Secondary Indexes").
pub record AreInSpan (table : TableRows) (places : List ℕ) (span : Span) (rows : List (List Value)) : Type 0 where
  pub ascend : Ascending (compare_by places (key_places table.schema)) rows
  pub here : (row : List Value) → HasRow rows row → HasRow table.rows row × (has span (key_of places row) ≡ true)
  pub there : (row : List Value) → HasRow table.rows row → has span (key_of places row) ≡ true → HasRow rows row

-- these are the entries of the clustered order, in order of the columns at these places and then of the clustered key
abbrev pub IsOrderOf : List ℕ → List ℕ → Slab (List Value) → List ℕ → InPages → Type 0
IsOrderOf places clustered slab order entries = IsIndexed clustered slab order (record { places = places; entries = entries })
