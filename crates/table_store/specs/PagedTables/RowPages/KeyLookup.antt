-- Rows that are wanted by a key.
use Rattle.std.specs.Prelude.{◌≡◌, ◌<◌, ℕ, List, [], length, get_or, find, Bool, true, Some}
use Rattle.std.specs.List.{slice_get, prefix_len}
use Rattle.slab.specs.Slab.{Slab}
use Rattle.base_values.specs.declared.value.Value.{Value}
use Rattle.base_values.specs.GhoSchema.Rows.{key_of}
use Rattle.base_page_list.specs.Pages.{flat, place_in}
use Rattle.table_store.specs.RowLists.{is_at, comes_before}
use Rattle.base_page_list.specs.Orders.{Has}
use Rattle.table_store.specs.PagedTables.RowPages.RowOrders.{row_of, rows_of}
use Rattle.table_store.specs.declared.paged_tables.row_pages.places.Wanted.{Wanted}
use Rattle.table_store.specs.declared.paged_tables.row_pages.places.Wanted.TheVariants.{Key, Of}

-- the key that is wanted
abbrev pub wanted_key : List ℕ → Wanted → List Value
wanted_key places (Key key) = key.now
wanted_key places (Of row) = key_of places row.now

-- The entry is here, and its row is the first that has this key.
pub record IsFound (places : List ℕ) (key : List Value) (slab : Slab (List Value)) (pages : List (List ℕ)) (page at entry : ℕ) : Type 0 where
  pub page_is : page < length pages
  pub within : at < length (get_or pages page [])
  pub place_is : place_in pages page at ≡ prefix_len (comes_before places key) (rows_of slab (flat pages))
  pub entry_is : slice_get (flat pages) (place_in pages page at) ≡ Some entry
  pub has_key : is_at places key (row_of slab entry) ≡ true
  pub row_is : find (is_at places key) (rows_of slab (flat pages)) ≡ Some (row_of slab entry)

-- The entry is one of these, and its row is the first that passes the test.
pub record IsFirst (test : List Value → Bool) (slab : Slab (List Value)) (entries : List ℕ) (entry : ℕ) : Type 0 where
  pub has : Has entries entry
  pub row_is : find test (rows_of slab entries) ≡ Some (row_of slab entry)
