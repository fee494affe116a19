-- *The timeline of the migrated table*, as the ghost relation speaks of it. (After gh-ost's documentation, "Shared key"; that
-- keys of other columns are kept too is this project's rule.)
use Rattle.std.specs.Prelude.{◌≡◌, ℕ, ◌+◌, Bool, true, false, not, ◌&&◌, ◌||◌, List, [], ◌∷◌, ◌++◌, map, find, Option, Some, None, Ok}
use Rattle.std.specs.List.{list_any, slice_get}
use Rattle.std.specs.Ordering.{is_eq}
use Rattle.std.specs.Result.{result_ok}
use Rattle.std.specs.Str.{bytes_eq}
use Rattle.base_values.specs.KeyOrder.{compare_keys}
use Rattle.base_values.specs.declared.gho_schema.schema.Schema.{Schema}
use Rattle.base_values.specs.declared.gho_schema.schema.Index.{Index}
use Rattle.base_values.specs.GhoSchema.Rows.{key_of, key_places}
use Rattle.base_values.specs.GhoSchema.Tables.{IsRow, IsTable, clash}
use Rattle.base_values.specs.declared.row_conversion.map.MapColumn.{MapColumn}
use Rattle.base_values.specs.declared.row_conversion.map.Origin.{Origin}
use Rattle.base_values.specs.declared.row_conversion.map.Origin.TheVariants.{Old, Added}
use Rattle.base_values.specs.RowConversion.ConvertedRows.{converted_row}
use Rattle.base_values.specs.declared.event.RowEvent.{RowEvent}
use Rattle.base_values.specs.declared.event.Change.{Change}
use Rattle.base_values.specs.declared.event.Change.TheVariants.{Write, Update, Delete}
use Rattle.table_store.specs.RowLists.{is_at}
use Rattle.table_store.specs.ClusteredKeys.{HasClusteredKey}
use Rattle.proof_journals.specs.Ghost.Relation.Timelines.{Timeline}
use Rattle.proof_journals.specs.Ghost.Rows.Moments.{Row, Fits, rows_at, rows_then}

abbrev pub old_place : Option MapColumn → List ℕ
old_place None = []
old_place (Some column) = origin_place column.origin
  where
    origin_place : Origin → List ℕ
    origin_place (Old place) = place ∷ []
    origin_place (Added value) = []

-- where the columns at these places of the altered table stood before
abbrev pub old_places : List MapColumn → List ℕ → List ℕ
old_places map [] = []
old_places map (place ∷ places) = old_place (slice_get map place) ++ old_places map places

-- *Kept keys*: the unique keys of the altered table, as keys of the table before
abbrev pub kept_key : List MapColumn → Index → Index
kept_key columns index = record index { places = old_places columns index.places }

abbrev pub kept_keys : List MapColumn → List Index → List Index
kept_keys columns uniques = map (kept_key columns) uniques

-- *Changes a unique key*: the two rows differ in one of these keys.
unfoldable pub changes_key : List Index → Row → Row → Bool
changes_key uniques row other = list_any (λ index. not (is_eq (compare_keys (key_of index.places row) (key_of index.places other)))) uniques

-- the change writes the row of this key, removes it or changes one of its unique keys
abbrev pub touches_row : List Index → List ℕ → Row → Change → Bool
touches_row uniques places key (Write row) = is_at places key row
touches_row uniques places key (Update before after) = changes_key uniques before after && (is_at places key before || is_at places key after)
touches_row uniques places key (Delete row) = is_at places key row

-- the event is of the table of this name, and touches the row of this key
abbrev pub touched_by : List Index → List ℕ → List ℕ → Row → Option RowEvent → Bool
touched_by uniques name places key None = false
touched_by uniques name places key (Some event) = bytes_eq event.table name && touches_row uniques places key event.change

-- *Migration*: the name and the schema of a table that is altered, with the schema that the ALTER leaves, under the ghost's
-- name, and where its columns come from
pub record Migration : Type 0 where
  pub name : List ℕ
  pub schema : Schema
  pub new : Schema
  pub columns : List MapColumn

-- the migration's kept keys
abbrev pub kept : Migration → List Index
kept m = kept_keys m.columns m.new.uniques

-- *The timeline*: by its clustered key, each row at each moment of the log, which rows an event touches, their converted rows,
-- and which of them clash.
abbrev pub timeline_of : Migration → List Row → List RowEvent → Timeline Row Row Row
timeline_of m rows log =
    record {
      row_at = λ i key. find (is_at (key_places m.schema) key) (rows_at m.name (key_places m.schema) rows log i);
      touches = λ i key. touched_by (kept m) m.name (key_places m.schema) key (slice_get log i);
      converted_row = λ row. result_ok (converted_row m.columns row);
      rows_clash = clash (kept m);
      converted_rows_clash = clash m.new.uniques;
    }

-- *What the ALTER keeps*: converted rows clash only where rows clash in the kept keys; these are keys of the table before; and
-- its clustered key is one of them.
pub record KeepsUniques (m : Migration) : Type 0 where
  pub clashes : (row other made more : Row) → IsRow m.schema.columns row → IsRow m.schema.columns other → converted_row m.columns row ≡ Ok made → converted_row m.columns other ≡ Ok more → clash m.new.uniques made more ≡ true → clash (kept m) row other ≡ true
  pub are_old : (row other : Row) → clash (kept m) row other ≡ true → clash m.schema.uniques row other ≡ true
  pub place : ℕ
  pub clustered : Index
  pub there : slice_get (kept m) place ≡ Some clustered
  pub its_places : clustered.places ≡ key_places m.schema

-- *What an accepted plan gives* of a migration of these rows: both tables have a clustered key, the ALTER keeps unique keys,
-- the rows are a table, and a converted row is a row of the altered table with its row's key.
pub record IsPlanned (m : Migration) (rows : List Row) : Type 0 where
  pub old_key : HasClusteredKey m.schema
  pub new_key : HasClusteredKey m.new
  pub keeps : KeepsUniques m
  pub table : IsTable m.schema rows
  pub fits : (row made : Row) → IsRow m.schema.columns row → converted_row m.columns row ≡ Ok made → IsRow m.new.columns made
  pub same_key : (row made : Row) → IsRow m.schema.columns row → converted_row m.columns row ≡ Ok made → key_of (key_places m.new) made ≡ key_of (key_places m.schema) row

-- the event at a place of the log, which fits the rows as they then are if it is of the table
pub record EventAt (name : List ℕ) (schema : Schema) (rows : List Row) (log : List RowEvent) (i : ℕ) : Type 0 where
  pub event : RowEvent
  pub there : slice_get log i ≡ Some event
  pub then : rows_at name (key_places schema) rows log (i + 1) ≡ rows_then name (key_places schema) event (rows_at name (key_places schema) rows log i)
  pub fits : bytes_eq event.table name ≡ true → Fits schema (rows_at name (key_places schema) rows log i) event.change

-- *Due*: the event at this place is this change of the migrated table
pub record IsDue (m : Migration) (rows : List Row) (log : List RowEvent) (i : ℕ) (change : Change) : Type 0 where
  pub step : EventAt m.name m.schema rows log i
  pub named : bytes_eq step.event.table m.name ≡ true
  pub is : step.event.change ≡ change
  pub table : IsTable m.schema (rows_at m.name (key_places m.schema) rows log i)
