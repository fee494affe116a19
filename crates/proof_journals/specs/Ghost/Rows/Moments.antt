-- The rows of a table after each event of the log, and events that fit the rows as they then are.
use Rattle.std.specs.Prelude.{◌≡◌, ℕ, zero, suc, true, false, if◌then◌else◌, List, [], ◌∷◌, find, unwrap_or, Some}
use Rattle.std.specs.List.{AllByRecursion}
use Rattle.std.specs.Str.{bytes_eq}
use Rattle.base_values.specs.declared.value.Value.{Value}
use Rattle.base_values.specs.declared.gho_schema.schema.Schema.{Schema}
use Rattle.base_values.specs.declared.gho_schema.schema.Index.{Index}
use Rattle.base_values.specs.GhoSchema.Rows.{key_of, key_places, put}
use Rattle.base_values.specs.GhoSchema.Tables.{IsRow, clash}
use Rattle.base_values.specs.declared.event.RowEvent.{RowEvent}
use Rattle.base_values.specs.declared.event.Change.{Change}
use Rattle.base_values.specs.declared.event.Change.TheVariants.{Write, Update, Delete}
use Rattle.table_store.specs.RowLists.{is_at, without_key}

abbrev pub Row : Type 0
Row = List Value

-- the rows with this one, unless a row has its key
abbrev pub put_in : List ℕ → Row → List Row → List Row
put_in places row rows = unwrap_or (put places row rows) rows

-- The rows after a change, which takes out the row of a key. So what is found by a key then follows from what was found by it
-- before. Where the change fits, the server's rows after it are the same.
abbrev pub rows_after : List ℕ → Change → List Row → List Row
rows_after places (Write row) rows = put_in places row rows
rows_after places (Update before after) rows = put_in places after (without_key places (key_of places before) rows)
rows_after places (Delete row) rows = without_key places (key_of places row) rows

-- the rows after changes, one by one
unfoldable pub rows_after_all : List ℕ → List Change → List Row → List Row
rows_after_all places [] rows = rows
rows_after_all places (change ∷ changes) rows = rows_after_all places changes (rows_after places change rows)

-- the rows of the table of this name after an event
abbrev pub rows_then : List ℕ → List ℕ → RowEvent → List Row → List Row
rows_then name places event rows = if bytes_eq event.table name then rows_after places event.change rows else rows

-- *The rows at a moment*: those of the table of this name after the first i events of the log
unfoldable pub rows_at : List ℕ → List ℕ → List Row → List RowEvent → ℕ → List Row
rows_at name places rows log zero = rows
rows_at name places rows [] (suc i) = rows
rows_at name places rows (event ∷ log) (suc i) = rows_at name places (rows_then name places event rows) log i

-- no row clashes with the new one
abbrev pub NoneClashes : List Index → Row → List Row → Type 0
NoneClashes uniques row rows = AllByRecursion (λ other. clash uniques row other ≡ false) rows

-- *The change fits the rows*: what it takes out is there, and what it writes is a row that clashes with none.
abbrev pub Fits : Schema → List Row → Change → Type 0
Fits schema rows (Write row) = IsRow schema.columns row × NoneClashes schema.uniques row rows
Fits schema rows (Update before after) =
    (find (is_at (key_places schema) (key_of (key_places schema) before)) rows ≡ Some before) × IsRow schema.columns after × NoneClashes schema.uniques after (without_key (key_places schema) (key_of (key_places schema) before) rows)
Fits schema rows (Delete row) = find (is_at (key_places schema) (key_of (key_places schema) row)) rows ≡ Some row

-- each change fits the rows as they then are
unfoldable pub FitsAll : Schema → List Row → List Change → Type 0
FitsAll schema rows [] = Unit {0}
FitsAll schema rows (change ∷ changes) = Fits schema rows change × FitsAll schema (rows_after (key_places schema) change rows) changes

-- *The log fits the table*: each event of the table of this name fits its rows as they then are.
unfoldable pub LogFits : List ℕ → Schema → List Row → List RowEvent → Type 0
LogFits name schema rows [] = Unit {0}
LogFits name schema rows (event ∷ log) = (bytes_eq event.table name ≡ true → Fits schema rows event.change) × LogFits name schema (rows_then name (key_places schema) event rows) log
