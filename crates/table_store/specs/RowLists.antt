-- Rows by their keys, as plain lists. A row's key is its values at places (MySQL's manual, "Clustered and Secondary
-- Indexes").
use Rattle.std.specs.Prelude.{◌≡◌, ◌<◌, ℕ, Bool, false, not, ◌&&◌, List, length, filter, find, remove, Option, Some, None}
use Rattle.std.specs.List.{slice_get}
use Rattle.std.specs.Ordering.{is_eq, is_gt}
use Rattle.base_values.specs.declared.value.Value.{Value}
use Rattle.base_values.specs.KeyOrder.{compare_keys}
use Rattle.base_values.specs.GhoSchema.Rows.{key_of}
use Rattle.base_values.specs.GhoSchema.Tables.{no_null}

-- the row has this key
abbrev pub is_at : List ℕ → List Value → List Value → Bool
is_at places key row = is_eq (compare_keys key (key_of places row))

-- the row has the key that is named, where one is named
abbrev pub is_besides : List ℕ → Option (List Value) → List Value → Bool
is_besides places None row = false
is_besides places (Some key) row = is_at places key row

-- the row has the new one's key, none of whose values is null, and isn't that of the key that is named
abbrev pub clashes_by_key : List ℕ → List Value → Option (List Value) → List Value → Bool
clashes_by_key places new besides row = is_at places (key_of places new) row && no_null (key_of places new) && not (is_besides places besides row)

-- the rows without the one of this key
abbrev pub without_key : List ℕ → List Value → List (List Value) → List (List Value)
without_key places key rows = filter (λ row. not (is_at places key row)) rows

-- the row comes before the rows of this key
abbrev pub comes_before : List ℕ → List Value → List Value → Bool
comes_before places key row = is_gt (compare_keys key (key_of places row))

-- the row of this key is at this place among the rows
pub record StandsAt (places : List ℕ) (key : List Value) (rows : List (List Value)) (place : ℕ) : Type 0 where
  pub within : place < length rows
  pub row : find (is_at places key) rows ≡ slice_get rows place
  pub without : without_key places key rows ≡ remove rows place
