-- *Shards*: a table's rows, some of them in each shard, and what of the table's changes falls to a shard. (This project's
-- rule.) What a table is after changes is said without shards, by `change_all`.
use Rattle.std.specs.Prelude.{◌≡◌, ℕ, zero, suc, ◌+◌, ◌==◌, nat_lt, Bool, true, false, if◌then◌else◌, List, [], ◌∷◌, ◌++◌, filter, map, Option, Some, None, Result, Ok, Err}
use Rattle.base_values.specs.declared.value.Value.{Value}
use Rattle.base_values.specs.declared.row_conversion.map.MapColumn.{MapColumn}
use Rattle.base_values.specs.declared.row_conversion.conversion_fault.UnfitAt.{UnfitAt}
use Rattle.base_values.specs.RowConversion.ConvertedRows.{converted_row}
use Rattle.base_values.specs.GhoSchema.Rows.{key_of, with_row}
use Rattle.base_values.specs.GhoSchema.Tables.{Ascends}
use Rattle.base_values.specs.declared.event.Change.{Change}
use Rattle.base_values.specs.declared.event.Change.TheVariants.{Write, Update, Delete}
use Rattle.server_model.specs.Rows.{change_rows}

-- an UPDATE whose first row lies within the shard or doesn't, and whose second one does or doesn't: what leaves the shard is
-- removed there, and what comes into it is written there
abbrev pub moved : Bool → Bool → List Value → List Value → List Change
moved true true before after = Update before after ∷ []
moved true false before after = Delete before ∷ []
moved false true before after = Write after ∷ []
moved false false before after = []

-- what of a change falls to the shard of these rows
abbrev pub part_of : (List Value → Bool) → Change → List Change
part_of within (Write row) = if within row then Write row ∷ [] else []
part_of within (Update before after) = moved (within before) (within after) before after
part_of within (Delete row) = if within row then Delete row ∷ [] else []

-- *A shard's part* of changes, in their order
unfoldable pub parts_of : (List Value → Bool) → List Change → List Change
parts_of within [] = []
parts_of within (change ∷ changes) = part_of within change ++ parts_of within changes

-- the rows stand in order of the key before each of the changes
unfoldable pub StaysInOrder : List ℕ → List Change → List (List Value) → Type 0
StaysInOrder places [] rows = Unit {0}
StaysInOrder places (change ∷ changes) rows = Ascends places rows × StaysInOrder places changes (change_rows places change rows)

-- the rows of the shard of this number, where each row is of a shard
abbrev pub shard_of : (List Value → ℕ) → ℕ → List (List Value) → List (List Value)
shard_of home shard rows = filter (λ row. home row == shard) rows

-- rows that are put among others, one by one
unfoldable pub with_rows : List ℕ → List (List Value) → List (List Value) → List (List Value)
with_rows places [] into = into
with_rows places (row ∷ rows) into = with_rows places rows (with_row places row into)

-- *Shards put together*: those of the numbers below this one
unfoldable pub together : List ℕ → (ℕ → List (List Value)) → ℕ → List (List Value)
together places shard zero = []
together places shard (suc count) = with_rows places (shard count) (together places shard count)

-- the row after a change, where there is one
abbrev pub row_after : Change → Option (List Value)
row_after (Write row) = Some row
row_after (Update before after) = Some after
row_after (Delete row) = None

-- *Rows seen*: the opening rows, and then the row after each change
abbrev pub rows_seen : List (List Value) → List Change → List (Option (List Value))
rows_seen rows changes = map (λ row. Some row) rows ++ map row_after changes

-- a row that has no converted row: its place among those that are seen, from 0, and the column that refuses
pub record UnfitRow : Type 0 where
  pub place : ℕ
  pub at : UnfitAt

-- the converted row, where there is one, has the row's clustered key
abbrev pub KeepsKey : List ℕ → List ℕ → List MapColumn → List Value → Type 0
KeepsKey old new map row = (made : List Value) → converted_row map row ≡ Ok made → key_of new made ≡ key_of old row

-- so does that of the row after a change
abbrev pub KeepsAfter : List ℕ → List ℕ → List MapColumn → Change → Type 0
KeepsAfter old new map (Write row) = KeepsKey old new map row
KeepsAfter old new map (Update before after) = KeepsKey old new map after
KeepsAfter old new map (Delete row) = Unit {0}

abbrev pub unfit_at : ℕ → Result (List Value) UnfitAt → Option UnfitRow → Option UnfitRow
unfit_at place (Ok made) later = later
unfit_at place (Err at) later = Some (record { place = place; at = at })

-- *The first unfit row*: the first that has no converted row, where rows are seen from this place on
unfoldable pub first_unfit : List MapColumn → ℕ → List (Option (List Value)) → Option UnfitRow
first_unfit map place [] = None
first_unfit map place (None ∷ seen) = first_unfit map (place + 1) seen
first_unfit map place (Some row ∷ seen) = unfit_at place (converted_row map row) (first_unfit map (place + 1) seen)

-- the row, where it is one of a shard
abbrev pub only : (List Value → Bool) → Option (List Value) → Option (List Value)
only within None = None
only within (Some row) = if within row then Some row else None

-- what a shard sees: of the rows of others nothing, so that places stay
abbrev pub shard_sees : (List Value → Bool) → List (Option (List Value)) → List (Option (List Value))
shard_sees within seen = map (only within) seen

abbrev pub earlier : Option UnfitRow → Option UnfitRow → Option UnfitRow
earlier None other = other
earlier (Some one) None = Some one
earlier (Some one) (Some other) = if nat_lt one.place other.place then Some one else Some other

-- the first of what the shards below this number find
unfoldable pub earliest : (ℕ → Option UnfitRow) → ℕ → Option UnfitRow
earliest found zero = None
earliest found (suc count) = earlier (found count) (earliest found count)
