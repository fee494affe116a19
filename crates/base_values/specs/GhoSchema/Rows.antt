-- The order in which a table keeps its rows.
use Rattle.std.specs.Prelude.{ℕ, Bool, List, [], ◌∷◌, ◌++◌, option_to_list, Option, Some, None, if◌then◌else◌}
use Rattle.std.specs.Ordering.{is_eq, match_ordering}
use Rattle.std.specs.List.{list_any, slice_get}
use Rattle.base_values.specs.declared.value.Value.{Value}
use Rattle.base_values.specs.KeyOrder.{compare_keys}
use Rattle.base_values.specs.declared.gho_schema.schema.Schema.{Schema}
use Rattle.base_values.specs.declared.gho_schema.schema.Index.{Index}
use Rattle.base_values.specs.GhoSchema.ClusteredKey.{clustered_key}

-- the places of a key's columns, in the key's order; none where there is no such key
abbrev pub places_of : Option Index → List ℕ
places_of None = []
places_of (Some index) = index.places

-- the places of the clustered key's columns, in the key's order; none where there is no such key
abbrev pub key_places : Schema → List ℕ
key_places schema = places_of (clustered_key schema)

-- those of the unique key of this number, from 0
abbrev pub places_at : Schema → ℕ → List ℕ
places_at schema key = places_of (slice_get schema.uniques key)

-- a row's key: its values at these places
unfoldable pub key_of : List ℕ → List Value → List Value
key_of [] row = []
key_of (place ∷ places) row = option_to_list (slice_get row place) ++ key_of places row

-- whether one of the rows has this key
unfoldable pub has_key : List ℕ → List (List Value) → List Value → Bool
has_key places rows key = list_any (λ row. is_eq (compare_keys key (key_of places row))) rows

-- the rows with one more before the first whose key isn't smaller
unfoldable pub with_row : List ℕ → List Value → List (List Value) → List (List Value)
with_row places row [] = row ∷ []
with_row places row (first ∷ rows) =
    match_ordering (compare_keys (key_of places row) (key_of places first)) (row ∷ first ∷ rows) (row ∷ first ∷ rows) (first ∷ with_row places row rows)

-- The rows with one more in its place in order of the key, or none where a row has its key already.
abbrev pub put : List ℕ → List Value → List (List Value) → Option (List (List Value))
put places row rows = if has_key places rows (key_of places row) then None else Some (with_row places row rows)
