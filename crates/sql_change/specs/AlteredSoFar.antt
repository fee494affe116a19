-- The table between two clauses.
use Rattle.std.specs.Prelude.{◌≡◌, ℕ, ◌+◌, ◌≤◌, List, [], ◌∷◌, length, Option, Some, None}
use Rattle.std.specs.List.{insert, remove, slice_get}
use Rattle.base_values.specs.declared.gho_schema.schema.Schema.{Schema}
use Rattle.base_values.specs.declared.gho_schema.schema.Column.{Column}
use Rattle.sql_change.specs.declared.places.PlaceChange.{PlaceChange}
use Rattle.sql_change.specs.declared.places.PlaceChange.TheVariants.{Added, Dropped, Moved}
use Rattle.sql_change.specs.declared.so_far.AlteredSoFar.{AlteredSoFar}
use Rattle.sql_change.specs.Places.{keys_after, indexes_after, ArePlaces}

-- the old places from this one on, one a column
unfoldable pub places_from : ℕ → List Column → List (Option ℕ)
places_from place [] = []
places_from place (column ∷ columns) = Some place ∷ places_from (place + 1) columns

-- before the first clause each column is an old one
abbrev pub start : Schema → AlteredSoFar
start schema = record { schema = schema; origins = places_from 0 schema.columns }

-- the columns after a change of their places, and the keys with them
unfoldable pub with_columns : PlaceChange → Schema → List Column → Schema
with_columns change schema columns = record schema { columns = columns; uniques = keys_after change schema.uniques; indexes = indexes_after change schema.indexes }

-- the column put in at this place; none of its values are old
unfoldable pub put_in : AlteredSoFar → ℕ → Column → AlteredSoFar
put_in standing at column = record { schema = with_columns (Added at) standing.schema (insert standing.schema.columns at column); origins = insert standing.origins at None }

-- the column at this place taken out
unfoldable pub taken_out : AlteredSoFar → ℕ → AlteredSoFar
taken_out standing at = record { schema = with_columns (Dropped at) standing.schema (remove standing.schema.columns at); origins = remove standing.origins at }

-- where the values of the column at this place come from
abbrev pub origin_of : Option (Option ℕ) → Option ℕ
origin_of (Some origin) = origin
origin_of None = None

abbrev pub origin_at : AlteredSoFar → ℕ → Option ℕ
origin_at standing place = origin_of (slice_get standing.origins place)

-- the column at one place taken out, and this one with its values put in at another
unfoldable pub moved_to : AlteredSoFar → ℕ → ℕ → Column → AlteredSoFar
moved_to standing from to column = record {
  schema = with_columns (Moved from to) standing.schema (insert (remove standing.schema.columns from) to column);
  origins = insert (remove standing.origins from) to (origin_at standing from);
}

-- A table as the code may have it: at most 64 columns, an origin for each, and keys of columns that are there.
pub record Stands (standing : AlteredSoFar) : Type 0 where
  pub few : length standing.schema.columns ≤ 64
  pub origins : length standing.origins ≡ length standing.schema.columns
  pub uniques : ArePlaces (length standing.schema.columns) standing.schema.uniques
  pub indexes : ArePlaces (length standing.schema.columns) standing.schema.indexes
