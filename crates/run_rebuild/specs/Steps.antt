-- What a shard makes, of its converted rows, of one row or one change.
use Rattle.std.specs.Prelude.{ℕ, Bool, if◌then◌else◌, List, [], ◌∷◌, Result, Ok, Err}
use Rattle.base_values.specs.declared.value.Value.{Value}
use Rattle.base_values.specs.declared.event.Change.{Change}
use Rattle.base_values.specs.declared.event.Change.TheVariants.{Write, Update, Delete}
use Rattle.base_values.specs.declared.row_conversion.conversion_fault.UnfitAt.{UnfitAt}
use Rattle.base_values.specs.declared.row_conversion.map.MapColumn.{MapColumn}
use Rattle.base_values.specs.RowConversion.ConvertedRows.{converted_row}
use Rattle.base_values.specs.GhoSchema.Rows.{key_of, with_row}
use Rattle.table_store.specs.RowLists.{without_key}

-- the rows with this one, in place of that of its key
abbrev pub replaced : List ℕ → List Value → List (List Value) → List (List Value)
replaced places row rows = with_row places row (without_key places (key_of places row) rows)

-- the rows with these, one by one
unfoldable pub replaced_all : List ℕ → List (List Value) → List (List Value) → List (List Value)
replaced_all places [] into = into
replaced_all places (row ∷ rows) into = replaced_all places rows (replaced places row into)

-- the rows with a converted row, where there is one
abbrev pub with_converted : List ℕ → Result (List Value) UnfitAt → List (List Value) → List (List Value)
with_converted new (Ok made) rows = replaced new made rows
with_converted new (Err at) rows = rows

-- a row is written: where it is the shard's, its converted row is put
abbrev pub written : (List Value → Bool) → List ℕ → List MapColumn → List Value → List (List Value) → List (List Value)
written within new map row rows = if within row then with_converted new (converted_row map row) rows else rows

-- a row is removed: where it is the shard's, the converted row of its key goes
abbrev pub deleted : (List Value → Bool) → List ℕ → List ℕ → List Value → List (List Value) → List (List Value)
deleted within old new row rows = if within row then without_key new (key_of old row) rows else rows

-- a change is followed
abbrev pub followed : (List Value → Bool) → List ℕ → List ℕ → List MapColumn → Change → List (List Value) → List (List Value)
followed within old new map (Write row) rows = written within new map row rows
followed within old new map (Update before after) rows = written within new map after (deleted within old new before rows)
followed within old new map (Delete row) rows = deleted within old new row rows
