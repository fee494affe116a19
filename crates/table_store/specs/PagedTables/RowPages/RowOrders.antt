-- Rows in a slab, and lists of their entries in order.
use Rattle.std.specs.Prelude.{◌≡◌, ℕ, Bool, false, List, [], length, map, unwrap_or, IsSome}
use Rattle.std.specs.List.{AllByRecursion, prefix_len}
use Rattle.std.specs.declared.cmp.Ordering.{Ordering}
use Rattle.std.specs.Ordering.{is_gt, ordering_then}
use Rattle.slab.specs.Slab.{Slab, get, slab_len}
use Rattle.base_page_list.specs.Orders.{Ascending, is_tied}
use Rattle.base_values.specs.declared.value.Value.{Value}
use Rattle.base_values.specs.KeyOrder.{compare_keys}
use Rattle.base_values.specs.GhoSchema.Rows.{key_of}

-- the row of an entry
abbrev pub row_of : Slab (List Value) → ℕ → List Value
row_of slab entry = unwrap_or (get slab entry) []

-- the rows of entries
abbrev pub rows_of : Slab (List Value) → List ℕ → List (List Value)
rows_of slab entries = map (row_of slab) entries

-- Which of two rows comes first: by their values at the first places, and where these tie, at the second (MySQL's
-- manual, "Clustered and Secondary Indexes": an entry of another index ends with the row's clustered key).
abbrev pub compare_by : List ℕ → List ℕ → List Value → List Value → Ordering
compare_by first second a b = ordering_then (compare_keys (key_of first a) (key_of first b)) (compare_keys (key_of second a) (key_of second b))

-- the other row comes before this one
abbrev pub is_before : List ℕ → List ℕ → List Value → List Value → Bool
is_before first second row other = is_gt (compare_by first second row other)

-- the place of a row among rows in order
abbrev pub place_by : List ℕ → List ℕ → List Value → List (List Value) → ℕ
place_by first second row rows = prefix_len (is_before first second row) rows

-- no row has this row's clustered key
abbrev pub IsNew : List ℕ → List Value → List (List Value) → Type 0
IsNew clustered row rows = AllByRecursion (λ other. is_tied (compare_by clustered [] row other) ≡ false) rows

-- Each entry has a row, there are as many entries as rows, and the rows are in order by their values at the first places, and
-- where these tie, at the second.
pub record IsListed (first second : List ℕ) (slab : Slab (List Value)) (entries : List ℕ) : Type 0 where
  pub stored : AllByRecursion (λ entry. IsSome (get slab entry)) entries
  pub ascends : Ascending (compare_by first second) (rows_of slab entries)
  pub counted : length entries ≡ slab_len slab
