-- What holds of all ALTERs that are taken. The functions of `law_texts::alters` prove each.
use Rattle.std.specs.Prelude.{◌≡◌, ℕ, Bool, true, List, length, Some, Ok}
use Rattle.std.specs.List.{slice_get, AllByRecursion}
use Rattle.base_values.specs.declared.value.Value.{Value}
use Rattle.base_values.specs.declared.gho_schema.schema.Index.{Index}
use Rattle.base_values.specs.declared.gho_schema.schema.Schema.{Schema}
use Rattle.base_values.specs.GhoSchema.Rows.{key_of, key_places}
use Rattle.base_values.specs.GhoSchema.Tables.{IsRow, IsTable, clash}
use Rattle.base_values.specs.declared.row_conversion.clause.Clause.{Clause}
use Rattle.base_values.specs.declared.row_conversion.clause.Clause.TheVariants.{Add, Drop, Rename, Change, AddIndex, DropIndex}
use Rattle.base_values.specs.declared.row_conversion.map.MapColumn.{MapColumn}
use Rattle.base_values.specs.RowConversion.ConvertedRows.{converted_row, converted_rows}
use Rattle.base_values.specs.GhoSchema.ClusteredKey.{clustered_key}
use Rattle.base_values.specs.SchemaRules.Valid.{is_kind, IsValid}
use Rattle.sql_change.specs.AlteredSchema.{altered}
use Rattle.sql_alter.specs.AlterText.{alter_at}

-- an altered table
abbrev pub Altered : Type 0
Altered = Schema × List MapColumn

-- the key of each converted row is the row's
abbrev pub KeepsKeys : Schema → Altered → Index → Index → Type 0
KeepsKeys schema new old index = (row made : List Value) → IsRow schema.columns row → converted_row new.1 row ≡ Ok made → key_of index.places made ≡ key_of old.places row

-- the key is one of the old table's, whose key each converted row has
pub record Stays (schema : Schema) (new : Altered) (index : Index) : Type 0 where
  pub place : ℕ
  pub old : Index
  pub stands : slice_get schema.uniques place ≡ Some old
  pub name : old.name ≡ index.name
  pub keeps : KeepsKeys schema new old index

-- Each unique key of an altered table is one of the old table, and a converted row has its row's own key.
abbrev pub ConvertedRowsKeepKeys : Type 0
ConvertedRowsKeepKeys =
    (approve : Bool) (schema : Schema) (clauses : List Clause) (new : Altered) (place : ℕ) (index : Index) → IsValid schema → altered approve schema clauses ≡ Ok new → slice_get new.0.uniques place ≡ Some index → Stays schema new index

-- Rows that don't clash have converted rows that don't clash.
abbrev pub ConvertedRowsStayApart : Type 0
ConvertedRowsStayApart =
    (approve : Bool) (schema : Schema) (clauses : List Clause) (new : Altered) (a b made other : List Value) → IsValid schema → altered approve schema clauses ≡ Ok new → IsRow schema.columns a → IsRow schema.columns b → converted_row new.1 a ≡ Ok made → converted_row new.1 b ≡ Ok other
    → clash new.0.uniques made other ≡ true → clash schema.uniques a b ≡ true

-- Rows with different clustered keys have converted rows with different clustered keys.
abbrev pub ClusteredKeysStay : Type 0
ClusteredKeysStay =
    (approve : Bool) (schema : Schema) (clauses : List Clause) (new : Altered) (old index : Index) → IsValid schema → altered approve schema clauses ≡ Ok new → clustered_key schema ≡ Some old → clustered_key new.0 ≡ Some index
    → KeepsKeys schema new old index

-- The clustered key of a converted row is the row's.
abbrev pub ConvertedRowsKeepClusteredKeys : Type 0
ConvertedRowsKeepClusteredKeys =
    (approve : Bool) (schema : Schema) (clauses : List Clause) (new : Altered) (row made : List Value) → IsValid schema → altered approve schema clauses ≡ Ok new → IsRow schema.columns row → converted_row new.1 row ≡ Ok made
    → key_of (key_places new.0) made ≡ key_of (key_places schema) row

-- An altered table has its old name.
abbrev pub AlteredTablesKeepNames : Type 0
AlteredTablesKeepNames = (approve : Bool) (schema : Schema) (clauses : List Clause) (new : Altered) → altered approve schema clauses ≡ Ok new → new.0.name ≡ schema.name

-- the kinds that a clause writes are kinds of this program
abbrev pub IsClause : Clause → Type 0
IsClause (Add column column_position) = is_kind column.kind ≡ true
IsClause (Drop name) = Unit {0}
IsClause (Rename old new) = Unit {0}
IsClause (Change old column column_position) = is_kind column.kind ≡ true
IsClause (AddIndex name columns) = Unit {0}
IsClause (DropIndex name) = Unit {0}

-- Every altered schema is valid.
abbrev pub AlteredSchemasAreValid : Type 0
AlteredSchemasAreValid = (approve : Bool) (schema : Schema) (clauses : List Clause) (new : Altered) → IsValid schema → AllByRecursion IsClause clauses → altered approve schema clauses ≡ Ok new → IsValid new.0

-- The clauses of a text write kinds of this program.
abbrev pub ReadClausesWriteKinds : Type 0
ReadClausesWriteKinds = (version : ℕ) (table text : List ℕ) (clauses : List Clause) → alter_at version table text ≡ Ok clauses → AllByRecursion IsClause clauses

-- A converted row is a row of the altered table.
abbrev pub ConvertedRowsAreRows : Type 0
ConvertedRowsAreRows = (approve : Bool) (schema : Schema) (clauses : List Clause) (new : Altered) (row made : List Value) → IsValid schema → altered approve schema clauses ≡ Ok new → converted_row new.1 row ≡ Ok made → IsRow new.0.columns made

-- The map has a place for each column of the altered table.
abbrev pub MapsFit : Type 0
MapsFit = (approve : Bool) (schema : Schema) (clauses : List Clause) (new : Altered) → IsValid schema → altered approve schema clauses ≡ Ok new → length new.1 ≡ length new.0.columns

-- An altered table is a table.
abbrev pub AlteredTablesAreTables : Type 0
AlteredTablesAreTables =
    (approve : Bool) (schema : Schema) (clauses : List Clause) (new : Altered) (rows made : List (List Value)) → IsValid schema → altered approve schema clauses ≡ Ok new → IsTable schema rows → converted_rows new.1 rows ≡ Some made
    → IsTable new.0 made
