-- The tables that are read, by their names.
use Rattle.std.proofs.Common.{◌≡◌, ℕ, Bool, true, false, cond, List, [], ◌∷◌, ◌++◌, Some, Ok, refl, sym, subst}
use Rattle.std.specs.List.{AllByRecursion}
use Rattle.base_values.specs.Laws.{StoresAgain}
use Rattle.table_store.specs.Databases.{TableRows, Database, has_table, is_named, find_table}
use Rattle.table_store.specs.Laws.{PutKeepsTables}
use Rattle.base_values.proofs.SchemaRules.Lists.{All-append, All-weaker}
use Rattle.base_values.proofs.SchemaRules.Steps.{bind_ok, ok_is, kept_out, some_is}
use Rattle.base_values.specs.SchemaRules.Limits.{is_table_name, is_name_length}
use Rattle.base_values.specs.ToolNames.{is_tool_name}
use Rattle.sql_create.specs.Laws.{ReadSchemasAreValid}
use Rattle.sql_create.specs.CreateText.{schema_at}
use Rattle.proof_schemas.specs.ReadAgain.{IsDeclared, ReadSchemasAreDeclared}
use Rattle.plan_keys.specs.Limits.{TableData}
use Rattle.plan_reader.specs.declared.plan_tables.fault.TableRefusal.{TableRefusal}
use Rattle.plan_reader.specs.PlanTables.Rows.{next_number, put_texts}
use Rattle.plan_reader.specs.PlanTables.Tables.{of_schema, newly_named, table_at, tables_from, tables_of, IsSound}
use Rattle.plan_reader.proofs.PlanTables.Sound as sound
use Rattle.plan_reader.proofs.PlanTables.Sound.{schema_was, texts_kept, rows_were}
use Rattle.server_model.specs.LockedRows.Coverage.{IsWellFormedTable}
use Rattle.server_model.proofs.LockedRows.Tests.{are_same}
use Rattle.plan_data.proofs.KeyedSchemas.{valid_keyed}
use Rattle.proof_journals.proofs.ValidTables.{valid_table}
use Rattle.proof_plans.proofs.ReadPlans.Names.{migrated_fits}

-- what the laws of the crates below say
pub record Laws : Type 0 where
  pub valid : ReadSchemasAreValid
  pub declared : ReadSchemasAreDeclared
  pub again : StoresAgain
  pub put : PutKeepsTables

-- a table that CREATE TABLE gives
abbrev pub IsMade : List ℕ → TableRows → Type 0
IsMade migrated table = IsDeclared migrated table.schema

table_made : Laws → (version : ℕ) (migrated : List ℕ) (number : ℕ) (tables : Database) (texts : TableData) (table : TableRows) → table_at version migrated number tables texts ≡ Ok table → IsMade migrated table
unfolding table_at
table_made laws version migrated number tables texts table is =
    let schema = bind_ok (of_schema number (schema_at version migrated texts.create)) _ table is in
    let empty = bind_ok (newly_named number tables schema.0) _ table schema.2 in
    let was = schema_was number (schema_at version migrated texts.create) schema.0 schema.1 in
    let bare : TableRows = record { schema = schema.0; rows = [] } in
    let parts = kept_out (has_table schema.0.name tables) bare empty.0 _ empty.1 in
    let put : put_texts 1 bare texts.rows ≡ Ok table = subst (λ (t : TableRows). put_texts 1 t texts.rows ≡ Ok table) (sym parts.1) (rows_were number (put_texts 1 empty.0 texts.rows) table empty.2) in
    let all : sound.Laws = record { again = laws.again; put = laws.put } in
    let kept = texts_kept all 1 bare table texts.rows (valid_keyed schema.0 (laws.valid version migrated texts.create schema.0 was)) (record { rows_fit = tt; ascends = tt; apart = tt }) put in
    subst (IsDeclared migrated) (sym kept.schema_is) (laws.declared version migrated texts.create schema.0 was)

pub tables_made : Laws → (version : ℕ) (migrated : List ℕ) (number : ℕ) (tables : Database) (texts : List TableData) (made : Database) → AllByRecursion (IsMade migrated) tables → tables_from version migrated number tables texts ≡ Ok made → AllByRecursion (IsMade migrated) made
unfolding tables_from
tables_made laws version migrated number tables [] made all is = subst (AllByRecursion (IsMade migrated)) (ok_is {C = TableRefusal} tables made is) all
tables_made laws version migrated number tables (first ∷ texts) made all is =
    let table = bind_ok (table_at version migrated number tables first) (λ table. tables_from version migrated (next_number number) (tables ++ (table ∷ [])) texts) made is in
    tables_made laws version migrated (next_number number) (tables ++ (table.0 ∷ [])) texts made (All-append (IsMade migrated) tables (table.0 ∷ []) all (table_made laws version migrated number tables first table.0 table.1, tt)) table.2

-- a table that is found is one of the tables, and has the name
pub record IsFound (P : TableRows → Type 0) (name : List ℕ) (table : TableRows) : Type 0 where
  pub is : P table
  pub named : table.schema.name ≡ name

pub found_is : (P : TableRows → Type 0) (name : List ℕ) (tables : Database) (table : TableRows) → AllByRecursion P tables → find_table name tables ≡ Some table → IsFound P name table
found_is P name [] table all is = absurd cc
found_is P name (first ∷ tables) table all is = by (is_named name first) refl is (found_is P name tables table all.1) where
  by : (b : Bool) → is_named name first ≡ b → cond b (Some first) (find_table name tables) ≡ Some table → (find_table name tables ≡ Some table → IsFound P name table) → IsFound P name table
  by true named is later = subst (IsFound P name) (some_is first table is) (record { is = all.0; named = are_same first.schema.name name named })
  by false named is later = later is

-- *The migrated table's name has at most 59 characters*
pub migrated_named : Laws → (version : ℕ) (migrated : List ℕ) (texts : List TableData) (tables : Database) (table : TableRows) → tables_of version migrated texts ≡ Ok tables → find_table migrated tables ≡ Some table → is_name_length 59 migrated ≡ true
migrated_named laws version migrated texts tables table read found =
    let is = found_is (IsMade migrated) migrated tables table (tables_made laws version migrated 1 [] texts tables tt read) found in
    migrated_fits migrated (subst (λ (n : List ℕ). is_table_name (is_tool_name migrated n) n ≡ true) is.named is.is.shaped.name)

sound_well_formed : (table : TableRows) → IsSound table → IsWellFormedTable table
sound_well_formed table is =
    let empty : IsWellFormedTable (record { schema = table.schema; rows = [] }) = valid_table table.schema is.valid in
    record { keyed = empty.keyed; defaults = empty.defaults; is_table = is.is_table }

-- *Sound tables are orderly*
pub all_well_formed : (tables : Database) → AllByRecursion IsSound tables → AllByRecursion IsWellFormedTable tables
all_well_formed tables all = All-weaker IsSound IsWellFormedTable sound_well_formed tables all
