-- *Database*: tables with different names, and what is asked of them and done to them.
use Rattle.std.specs.Prelude.{◌≡◌, ℕ, Bool, false, not, ◌&&◌, if◌then◌else◌, List, [], ◌∷◌, map, filter, find, unwrap_or, Option, Some, None, Result, Ok, Err}
use Rattle.std.specs.List.{AllByRecursion, list_any}
use Rattle.std.specs.Option.{option_map_or}
use Rattle.std.specs.Str.{bytes_eq}
use Rattle.base_values.specs.declared.value.Value.{Value}
use Rattle.base_values.specs.declared.span.Span.{Span}
use Rattle.base_values.specs.Spans.{has}
use Rattle.base_values.specs.declared.gho_schema.schema.Schema.{Schema}
use Rattle.base_values.specs.GhoSchema.Rows.{key_of, key_places, put}
use Rattle.base_values.specs.GhoSchema.Tables.{IsTable, clash}
use Rattle.base_values.specs.declared.mysql_errors.TheConstants.{ER_TABLE_EXISTS_ERROR, ER_NO_SUCH_TABLE}
use Rattle.table_store.specs.RowLists.{is_at, is_besides, without_key}
use Rattle.table_store.specs.declared.renames.Pair.{Pair}
use Rattle.table_store.specs.declared.add_fault.AddFault.{AddFault}
use Rattle.table_store.specs.declared.add_fault.AddFault.TheVariants as adds
use Rattle.table_store.specs.declared.renames.NotRenamed.{NotRenamed}
use Rattle.table_store.specs.declared.renames.NotRenamed.TheVariants.{Exists, Missing}

-- a table: its schema, and its rows in order of the clustered key
pub record TableRows : Type 0 where
  pub schema : Schema
  pub rows : List (List Value)

-- tables in order of adding
abbrev pub Database : Type 0
Database = List TableRows

-- The table has this name. Letters of either case differ in the names of tables (MySQL's manual, "Identifier Case
-- Sensitivity", as on Unix).
abbrev pub is_named : List ℕ → TableRows → Bool
is_named name table = bytes_eq table.schema.name name

-- the table of this name, where one has it
abbrev pub find_table : List ℕ → Database → Option TableRows
find_table name tables = find (is_named name) tables

-- whether a table has this name
abbrev pub has_table : List ℕ → Database → Bool
has_table name tables = list_any (is_named name) tables

-- no table has the name of another
abbrev pub NamesDiffer : Database → Type 0
NamesDiffer [] = Unit {0}
NamesDiffer (table ∷ tables) = (has_table table.schema.name tables ≡ false) × NamesDiffer tables

-- *Database*: tables with different names.
pub record IsDatabase (tables : Database) : Type 0 where
  pub names_differ : NamesDiffer tables
  pub each_is_table : AllByRecursion (λ table. IsTable table.schema table.rows) tables

-- the row with this clustered key, where one has it
abbrev pub row_at_key : TableRows → List Value → Option (List Value)
row_at_key table key = find (is_at (key_places table.schema) key) table.rows

-- the row of least clustered key that clashes with this one, besides the row of the key that is named
abbrev pub clashing : TableRows → List Value → Option (List Value) → Option (List Value)
clashing table row besides = find (λ other. clash table.schema.uniques row other && not (is_besides (key_places table.schema) besides other)) table.rows

-- the rows whose clustered keys lie in the span, in order
abbrev pub rows_in : TableRows → Span → List (List Value)
rows_in table span = filter (λ row. has span (key_of (key_places table.schema) row)) table.rows

-- the tables with this change of the one of this name
abbrev pub with_change : List ℕ → (TableRows → TableRows) → Database → Database
with_change name change tables = map (λ table. if is_named name table then change table else table) tables

-- The table with a row more, in its place in order of the clustered key. Where a row has its key already, it stays as
-- it was.
abbrev pub put_in_table : List Value → TableRows → TableRows
put_in_table row table = record { schema = table.schema; rows = unwrap_or (put (key_places table.schema) row table.rows) table.rows }

-- the tables with a row more in the one of this name
abbrev pub put_row : List ℕ → List Value → Database → Database
put_row name row tables = with_change name (put_in_table row) tables

-- the table without the row of this key
abbrev pub remove_from_table : List Value → TableRows → TableRows
remove_from_table key table = record { schema = table.schema; rows = without_key (key_places table.schema) key table.rows }

-- the tables without the row of this key in the one of this name
abbrev pub remove_row : List ℕ → List Value → Database → Database
remove_row name key tables = with_change name (remove_from_table key) tables

-- the tables but the one of this name
abbrev pub without_table : List ℕ → Database → Database
without_table name tables = filter (λ table. not (is_named name table)) tables

-- the table with another name
abbrev pub name_table : List ℕ → TableRows → TableRows
name_table name table = record { schema = record table.schema { name = name }; rows = table.rows }

-- the tables, where the one of this name has another
abbrev pub with_name : List ℕ → List ℕ → Database → Database
with_name old new tables = with_change old (name_table new) tables

-- The tables after RENAME TABLE, whose pairs are taken from left to right; or why none is renamed: at its pair a table of the
-- new name exists, or no table of the old name does (MySQL's manual, "RENAME TABLE Statement"; that the new name is looked at
-- first is this project's rule).
unfoldable pub rename_tables : List Pair → Database → Result Database NotRenamed
rename_tables [] tables = Ok tables
rename_tables (pair ∷ pairs) tables =
    if has_table pair.new tables then Err Exists
    else (if has_table pair.old tables then rename_tables pairs (with_name pair.old pair.new tables) else Err Missing)

-- the number of a refusal (MySQL's manual, "Server Error Message Reference")
abbrev pub rename_number : NotRenamed → ℕ
rename_number Exists = ER_TABLE_EXISTS_ERROR
rename_number Missing = ER_NO_SUCH_TABLE

-- the number of a refusal to add a table; want of memory has none
abbrev pub add_number : AddFault → Option ℕ
add_number adds.Exists = Some ER_TABLE_EXISTS_ERROR
add_number adds.Memory = None

-- what contracts see of a stored table: besides, for how many more rows it has room
pub record StoredTable : Type 0 where
  pub table : TableRows
  pub spare : ℕ

-- the tables alone
abbrev pub database : List StoredTable → Database
database tables = map (λ stored. stored.table) tables

-- the stored table with another name
abbrev pub name_stored : List ℕ → StoredTable → StoredTable
name_stored name stored = record { table = name_table name stored.table; spare = stored.spare }

-- the room of each table
abbrev pub spares : List StoredTable → List ℕ
spares tables = map (λ stored. stored.spare) tables

-- no row of the table has the clustered key of this one
abbrev pub IsNewIn : List Value → TableRows → Type 0
IsNewIn row table = row_at_key table (key_of (key_places table.schema) row) ≡ None

-- the stored table of this name, where one has it
abbrev pub find_stored : List ℕ → List StoredTable → Option StoredTable
find_stored name tables = find (λ stored. is_named name stored.table) tables

-- the stored tables but the one of this name
abbrev pub others : List ℕ → List StoredTable → List StoredTable
others name tables = filter (λ stored. not (is_named name stored.table)) tables

-- for how many more rows the table of this name has room
abbrev pub spare_in : List ℕ → List StoredTable → ℕ
spare_in name tables = option_map_or (λ stored. stored.spare) (find_stored name tables) 0
