-- How many rows a table has after events that fit it.
use Rattle.std.specs.Prelude.{◌≡◌, ◌≤◌, ◌+◌, ℕ, Bool, true, false, if◌then◌else◌, List, [], length, count_by, option_map, unwrap_or}
use Rattle.std.specs.List.{list_all}
use Rattle.std.specs.Str.{bytes_eq}
use Rattle.base_values.specs.declared.gho_schema.schema.Schema.{Schema}
use Rattle.base_values.specs.declared.value.Value.{Value}
use Rattle.base_values.specs.GhoSchema.Rows.{key_of, key_places}
use Rattle.base_values.specs.declared.event.RowEvent.{RowEvent}
use Rattle.base_values.specs.declared.event.Change.{Change}
use Rattle.base_values.specs.declared.event.Change.TheVariants.{Write, Update, Delete}
use Rattle.table_store.specs.Databases.{Database, find_table}
use Rattle.proof_journals.specs.Ghost.Rows.Moments.{Row, rows_at, LogFits}

-- the rows of the table of this name; none where it doesn't exist
abbrev pub rows_of : List ℕ → Database → List (List Value)
rows_of name tables = unwrap_or (option_map (λ table. table.rows) (find_table name tables)) []

abbrev pub is_write : Change → Bool
is_write (Write row) = true
is_write change = false

-- how many events put a new row into the table of this name
abbrev pub writes_of : List ℕ → List RowEvent → ℕ
writes_of name log = count_by (λ event. if bytes_eq event.table name then is_write event.change else false) log

-- *Rows are few*: after events that fit them, there are at most as many rows as at first and WRITEs of that table
abbrev pub RowsAreFew : Type 0
RowsAreFew = (name : List ℕ) (schema : Schema) (rows : List Row) (log : List RowEvent) → LogFits name schema rows log → length (rows_at name (key_places schema) rows log (length log)) ≤ length rows + writes_of name log

-- each row's key passes the test; and so does the key of what an event puts into the table of this name
abbrev pub all_keys : (List Value → Bool) → List ℕ → List Row → Bool
all_keys test places rows = list_all (λ row. test (key_of places row)) rows

abbrev pub puts_key : (List Value → Bool) → List ℕ → Change → Bool
puts_key test places (Write row) = test (key_of places row)
puts_key test places (Update before after) = test (key_of places after)
puts_key test places (Delete row) = true

abbrev pub all_put : (List Value → Bool) → List ℕ → List ℕ → List RowEvent → Bool
all_put test name places log = list_all (λ event. if bytes_eq event.table name then puts_key test places event.change else true) log

-- *Keys are those*: after any events each row's key is one of those at first, or of what an event put
abbrev pub KeysAreThose : Type 0
KeysAreThose = (test : List Value → Bool) (name : List ℕ) (places : List ℕ) (rows : List Row) (log : List RowEvent) → all_keys test places rows ≡ true → all_put test name places log ≡ true → all_keys test places (rows_at name places rows log (length log)) ≡ true
