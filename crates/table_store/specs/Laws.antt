-- What holds of all rows, tables and databases. The functions of the module `laws` prove each.
use Rattle.std.specs.Prelude.{◌≡◌, ℕ, Bool, true, false, List, Some, None, find, filter, option_map, is_some}
use Rattle.std.specs.Ordering.{is_eq}
use Rattle.std.specs.Str.{bytes_eq}
use Rattle.base_values.specs.declared.value.Value.{Value}
use Rattle.base_values.specs.KeyOrder.{compare_keys}
use Rattle.base_values.specs.declared.gho_schema.schema.Schema.{Schema}
use Rattle.base_values.specs.GhoSchema.Rows.{key_of, key_places, with_row}
use Rattle.base_values.specs.GhoSchema.Tables.{IsRow, Ascends, IsTable}
use Rattle.table_store.specs.RowLists.{is_at, without_key}
use Rattle.table_store.specs.ClusteredKeys.{HasClusteredKey}
use Rattle.table_store.specs.Databases.{TableRows, Database, find_table, has_table, clashing, with_change, IsNewIn, IsDatabase, StoredTable, find_stored, database, put_in_table}

-- A row that clashes with none has a new key, and a table with it put in is a table.
abbrev pub PutKeepsTables : Type 0
PutKeepsTables =
    (table : TableRows) (row : List Value) → HasClusteredKey table.schema → IsTable table.schema table.rows → IsRow table.schema.columns row → clashing table row None ≡ None
    → IsNewIn row table × IsTable table.schema (with_row (key_places table.schema) row table.rows)

-- A table without the row of a key is a table.
abbrev pub RemoveKeepsTables : Type 0
RemoveKeepsTables = (schema : Schema) (rows : List (List Value)) (key : List Value) → IsTable schema rows → IsTable schema (without_key (key_places schema) key rows)

-- What is found after a put: the row by its own key, and by others what was found before.
abbrev pub PutIsFound : Type 0
PutIsFound =
    ((places : List ℕ) (key row : List Value) (rows : List (List Value)) → is_at places key row ≡ true → find (is_at places key) (with_row places row rows) ≡ Some row)
    × ((places : List ℕ) (key row : List Value) (rows : List (List Value)) → is_at places key row ≡ false → find (is_at places key) (with_row places row rows) ≡ find (is_at places key) rows)

-- What is found after a removal: nothing by the key, and by others what was found before.
abbrev pub RemovedIsGone : Type 0
RemovedIsGone =
    ((places : List ℕ) (key : List Value) (rows : List (List Value)) → find (is_at places key) (without_key places key rows) ≡ None)
    × ((places : List ℕ) (key other : List Value) (rows : List (List Value)) → is_eq (compare_keys key other) ≡ false → find (is_at places key) (without_key places other rows) ≡ find (is_at places key) rows)

-- The rows that pass a test, with a row put in: the same, where it doesn't pass; else they with the row in its place.
abbrev pub PutAmongSome : Type 0
PutAmongSome =
    ((test : List Value → Bool) (places : List ℕ) (row : List Value) (rows : List (List Value)) → test row ≡ false → filter test (with_row places row rows) ≡ filter test rows)
    × ((test : List Value → Bool) (places : List ℕ) (row : List Value) (rows : List (List Value)) → Ascends places rows → test row ≡ true → filter test (with_row places row rows) ≡ with_row places row (filter test rows))

-- Two tests may be made in either order; so a removal may come before or after a test.
abbrev pub TestsCommute : Type 0
TestsCommute = (first second : List Value → Bool) (rows : List (List Value)) → filter first (filter second rows) ≡ filter second (filter first rows)

-- Rows of different keys may be put in either order.
abbrev pub PutsCommute : Type 0
PutsCommute = (places : List ℕ) (a b : List Value) (rows : List (List Value)) → is_at places (key_of places a) b ≡ false → with_row places a (with_row places b rows) ≡ with_row places b (with_row places a rows)

-- A put and a removal undo each other.
abbrev pub PutAndRemoveUndo : Type 0
PutAndRemoveUndo =
    ((places : List ℕ) (row : List Value) (rows : List (List Value)) → find (is_at places (key_of places row)) rows ≡ None → without_key places (key_of places row) (with_row places row rows) ≡ rows)
    × ((places : List ℕ) (row : List Value) (rows : List (List Value)) → Ascends places rows → find (is_at places (key_of places row)) rows ≡ Some row → with_row places row (without_key places (key_of places row) rows) ≡ rows)

-- A row of a new key is put among the rows.
abbrev pub NewRowsArePut : Type 0
NewRowsArePut = (table : TableRows) (row : List Value) → IsNewIn row table → put_in_table row table ≡ record { schema = table.schema; rows = with_row (key_places table.schema) row table.rows }

-- A change that keeps names is found at its table, and all others are found as before.
abbrev pub ChangesAreFound : Type 0
ChangesAreFound =
    ((name : List ℕ) (change : TableRows → TableRows) (tables : Database) → ((t : TableRows) → (change t).schema.name ≡ t.schema.name) → find_table name (with_change name change tables) ≡ option_map change (find_table name tables))
    × ((name other : List ℕ) (change : TableRows → TableRows) (tables : Database) → ((t : TableRows) → (change t).schema.name ≡ t.schema.name) → bytes_eq name other ≡ false
    → find_table other (with_change name change tables) ≡ find_table other tables)

-- A change of one table that leaves it a table, under its name, leaves a database.
abbrev pub ChangesKeepDatabases : Type 0
ChangesKeepDatabases =
    (name : List ℕ) (change : TableRows → TableRows) (tables : Database) → ((t : TableRows) → (change t).schema.name ≡ t.schema.name) → ((t : TableRows) → find_table name tables ≡ Some t → IsTable t.schema t.rows → IsTable (change t).schema (change t).rows)
    → IsDatabase tables → IsDatabase (with_change name change tables)

-- A table is found exactly where one has the name, and in a database as it is stored.
abbrev pub FoundWhereItIs : Type 0
FoundWhereItIs =
    ((name : List ℕ) (tables : Database) → is_some (find_table name tables) ≡ has_table name tables)
    × ((name : List ℕ) (tables : List StoredTable) → option_map (λ (s : StoredTable). s.table) (find_stored name tables) ≡ find_table name (database tables))
