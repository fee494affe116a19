-- Where the places of keys are after a column was put in, taken out or moved.
use Rattle.std.specs.Prelude.{ℕ, ◌+◌, ◌-◌, ◌<◌, ◌==◌, nat_lt, Bool, not, if◌then◌else◌, List, map, filter, length, Option, Some, None}
use Rattle.std.specs.List.{filter_map, AllByRecursion}
use Rattle.base_values.specs.declared.gho_schema.schema.Index.{Index}
use Rattle.sql_change.specs.declared.places.PlaceChange.{PlaceChange}
use Rattle.sql_change.specs.declared.places.PlaceChange.TheVariants.{Added, Dropped, Moved}

-- after a column that was put in at this place, all are one further
abbrev pub opened : ℕ → ℕ → ℕ
opened at place = if nat_lt place at then place else place + 1

-- after a column that was taken out at this place, all are one nearer
abbrev pub closed : ℕ → ℕ → ℕ
closed at place = if nat_lt at place then place - 1 else place

-- where a place stands afterwards; none where its column was taken out
unfoldable pub place_after : PlaceChange → ℕ → Option ℕ
place_after (Added at) place = Some (opened at place)
place_after (Dropped at) place = if place == at then None else Some (closed at place)
place_after (Moved from to) place = Some (if place == from then to else opened to (closed from place))

unfoldable pub index_after : PlaceChange → Index → Index
index_after change index = record index { places = filter_map (place_after change) index.places }

-- the key has a column
abbrev pub has_places : Index → Bool
has_places index = not (length index.places == 0)

abbrev pub keys_after : PlaceChange → List Index → List Index
keys_after change indexes = map (index_after change) indexes

-- An index left without columns is dropped ("ALTER TABLE Statement").
abbrev pub indexes_after : PlaceChange → List Index → List Index
indexes_after change indexes = filter has_places (keys_after change indexes)

-- the places of the keys are places of this many columns
abbrev pub ArePlaces : ℕ → List Index → Type 0
ArePlaces count indexes = AllByRecursion (λ index. AllByRecursion (λ place. place < count) index.places) indexes

-- the change is one of this many columns
abbrev pub IsChangeOf : ℕ → PlaceChange → Type 0
IsChangeOf count (Added at) = Unit {0}
IsChangeOf count (Dropped at) = at < count
IsChangeOf count (Moved from to) = (from < count) × (to < count)
