-- What a rebuild is given and what it answers.
use Rattle.std.specs.Prelude.{◌≡◌, ℕ, ◌==◌, nat_lt, if◌then◌else◌, Bool, List, [], map, filter, Option, Some, None, Result, Ok, Err}
use Rattle.std.specs.List.{AllByRecursion}
use Rattle.base_values.specs.declared.value.Value.{Value}
use Rattle.base_values.specs.declared.event.Change.{Change}
use Rattle.base_values.specs.declared.event.RowEvent.{RowEvent}
use Rattle.base_values.specs.declared.fault.Fault.{Fault}
use Rattle.base_values.specs.declared.fault.Fault.TheVariants.{Refused, Memory}
use Rattle.base_values.specs.declared.row_conversion.map.MapColumn.{MapColumn}
use Rattle.base_values.specs.RowConversion.ConvertedRows.{converted_row, converted_rows}
use Rattle.base_values.specs.GhoSchema.Rows.{key_of, key_places}
use Rattle.base_values.specs.GhoSchema.Tables.{Ascends}
use Rattle.table_store.specs.Databases.{TableRows}
use Rattle.table_store.specs.PagedTables.RowPages.StoredRows.{PagedTable}
use Rattle.server_model.specs.Rows.{change_all}
use Rattle.server_seen.specs.FittingChanges.{AllFit}
use Rattle.plan_data.specs.declared.plan.AlteredSchema.{AlteredSchema}
use Rattle.proof_rebuild.specs.Shards.{KeepsAfter, KeepsKey, UnfitRow, first_unfit, rows_seen, shard_sees}
use Rattle.run_rebuild.specs.declared.fault.UnfitRow.{UnfitRow as FoundRow}
use Rattle.run_rebuild.specs.declared.inputs.Inputs.{Inputs}
use Rattle.run_rebuild.specs.Steps.{replaced_all}
use Rattle.run_rebuild.specs.ShardNumbers.{is_of, shard_number}

-- *The unfit row is found*: where a call refuses, that is the row, and where it answers, there is none.
abbrev pub Finds : {A : Type 0} → Result A (Fault FoundRow) → Option UnfitRow → Type 0
Finds (Ok answer) found = found ≡ None
Finds (Err (Refused row)) found = found ≡ Some (record { place = row.place; at = row.at })
Finds (Err Memory) found = Unit {0}

-- the converted row of the row that is seen at a place
abbrev pub IsConvertedAs : List MapColumn → List Value → ℕ → Result (List Value) (Fault FoundRow) → Type 0
IsConvertedAs map row place (Ok made) = converted_row map row ≡ Ok made
IsConvertedAs map row place (Err (Refused found)) = (converted_row map row ≡ Err found.at) × (found.place ≡ place)
IsConvertedAs map row place (Err Memory) = Unit {0}

-- what events do, in order
abbrev pub changes_of : List RowEvent → List Change
changes_of events = map (λ event. event.change) events

-- the table's rows after its events
abbrev pub rows_then : Inputs → List (List Value)
rows_then inputs = change_all inputs.places.now (changes_of inputs.events.now) inputs.opening.now

-- the rows that are seen
abbrev pub seen_of : Inputs → List (Option (List Value))
seen_of inputs = rows_seen inputs.opening.now (changes_of inputs.events.now)

-- the shard of a row
abbrev pub home : Inputs → List Value → ℕ
home inputs row = shard_number inputs.workers (key_of inputs.places.now row)

-- the row is one of the shard of this number
abbrev pub own : Inputs → ℕ → List Value → Bool
own inputs number row = home inputs row == number

-- the row is one of the shards from this number on, so many
abbrev pub between : Inputs → ℕ → ℕ → List Value → Bool
between inputs from count row = is_of from count (home inputs row)

-- *Rows and changes go together*: the rows are in order of the clustered key, each change fits them as they then are, and converted
-- rows keep the clustered key.
pub record Fit (old new : List ℕ) (columns : List MapColumn) (rows : List (List Value)) (changes : List Change) : Type 0 where
  pub ascends : Ascends old rows
  pub fit : AllFit old changes rows
  pub opening_keys : AllByRecursion (KeepsKey old new columns) rows
  pub keys : AllByRecursion (KeepsAfter old new columns) changes

abbrev pub IsSound : Inputs → Type 0
IsSound inputs = Fit inputs.places.now (key_places inputs.altered.now.schema) inputs.altered.now.map inputs.opening.now (changes_of inputs.events.now)

-- the altered schema without rows
abbrev pub empty_table : Inputs → TableRows
empty_table inputs = record { schema = inputs.altered.now.schema; rows = [] }

-- these are the converted rows of those rows that pass the test
abbrev pub Holds : (List Value → Bool) → Inputs → List (List Value) → List (List Value) → Type 0
Holds within inputs rows made = converted_rows inputs.altered.now.map (filter within rows) ≡ Some made

-- a table of the altered schema, with the converted rows of those rows that are of some shards after all events
abbrev pub HasRows : (List Value → Bool) → Inputs → Result PagedTable (Fault FoundRow) → Type 0
HasRows within inputs (Ok table) = (table.table.schema ≡ inputs.altered.now.schema) × (IsSound inputs → Holds within inputs (rows_then inputs) table.table.rows)
HasRows within inputs (Err fault) = Unit {0}

-- *The table of some shards*, or the first row of theirs that is seen and has no converted row
pub record Rebuilds (within : List Value → Bool) (inputs : Inputs) (result : Result PagedTable (Fault FoundRow)) : Type 0 where
  pub rows : HasRows within inputs result
  pub finds : Finds result (first_unfit inputs.altered.now.map 0 (shard_sees within (seen_of inputs)))

-- *Both halves*: the other table's rows are put into the one; or the row that is seen first among those that both found
abbrev pub Unites : Result PagedTable (Fault FoundRow) → Result PagedTable (Fault FoundRow) → Result PagedTable (Fault FoundRow) → Type 0
Unites one other (Err Memory) = Unit {0}
Unites (Ok one) (Ok other) (Ok table) = (table.table.schema ≡ one.table.schema) × (table.table.rows ≡ replaced_all (key_places one.table.schema) other.table.rows one.table.rows) × Ascends (key_places other.table.schema) other.table.rows
Unites (Err (Refused one)) (Err (Refused other)) (Err (Refused row)) = row ≡ (if nat_lt other.place one.place then other else one)
Unites (Err (Refused one)) (Ok other) (Err (Refused row)) = row ≡ one
Unites (Ok one) (Err (Refused other)) (Err (Refused row)) = row ≡ other
Unites one other result = ⊥

-- The opening table and its changes go together, and with what the table became.
abbrev pub GoTogether : AlteredSchema → TableRows → List Change → Type 0
GoTogether altered opening changes = Fit (key_places opening.schema) (key_places altered.schema) altered.map opening.rows changes

-- *The rebuilt table*: of the altered schema, with the converted rows of the table that followed the changes one by one
abbrev pub IsRebuilt : AlteredSchema → TableRows → List Change → Result PagedTable (Fault FoundRow) → Type 0
IsRebuilt altered opening changes (Ok table) = (table.table.schema ≡ altered.schema) × (converted_rows altered.map (change_all (key_places opening.schema) changes opening.rows) ≡ Some table.table.rows)
IsRebuilt altered opening changes (Err fault) = Unit {0}
