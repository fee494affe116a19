-- *Tables* of a plan: one after the other, or the first refusal. This project's rule.
use Rattle.std.specs.Prelude.{ℕ, if◌then◌else◌, List, [], ◌∷◌, ◌++◌, Result, Ok, Err}
use Rattle.base_values.specs.declared.gho_schema.schema.Schema.{Schema}
use Rattle.base_values.specs.GhoSchema.Tables.{IsTable}
use Rattle.table_store.specs.Databases.{TableRows, Database, has_table}
use Rattle.base_values.specs.SchemaRules.Valid.{IsValid}
use Rattle.base_values.specs.SchemaRules.Results.{◌>>=◌}
use Rattle.sql_create.specs.CreateText.{schema_at}
use Rattle.sql_grammar.specs.declared.code.SchemaCode.{SchemaCode}
use Rattle.sql_grammar.specs.declared.code.SchemaCode.TheVariants.{RepeatedName}
use Rattle.plan_keys.specs.Limits.{TableData}
use Rattle.plan_reader.specs.declared.plan_tables.fault.TableRefusal.{TableRefusal}
use Rattle.plan_reader.specs.declared.plan_tables.fault.TableRefusal.TheVariants as refusals
use Rattle.plan_reader.specs.PlanTables.Rows.{next_number, put_texts}

-- what was read of the CREATE TABLE of the table of this number, and of its rows, or its refusal
abbrev pub of_schema : {A : Type 0} → ℕ → Result A SchemaCode → Result A TableRefusal
of_schema table (Ok read) = Ok read
of_schema table (Err code) = Err (refusals.Schema code table)

abbrev pub of_rows : {A : Type 0} → ℕ → Result A ℕ → Result A TableRefusal
of_rows table (Ok read) = Ok read
of_rows table (Err row) = Err (refusals.BadRow table row)

-- the table without rows, where its name didn't come before
abbrev pub newly_named : ℕ → Database → Schema → Result TableRows TableRefusal
newly_named number tables schema =
    if has_table schema.name tables then Err (refusals.Schema RepeatedName number) else Ok (record { schema = schema; rows = [] })

-- The table of this number after these tables: its CREATE TABLE is refused first, then its name where it came before, then its
-- first bad row.
unfoldable pub table_at : ℕ → List ℕ → ℕ → Database → TableData → Result TableRows TableRefusal
table_at version migrated number tables texts = do
  schema ← of_schema number (schema_at version migrated texts.create)
  table ← newly_named number tables schema
  of_rows number (put_texts 1 table texts.rows)

-- the tables with those from here on
unfoldable pub tables_from : ℕ → List ℕ → ℕ → Database → List TableData → Result Database TableRefusal
tables_from version migrated number tables [] = Ok tables
tables_from version migrated number tables (texts ∷ others) = do
  table ← table_at version migrated number tables texts
  tables_from version migrated (next_number number) (tables ++ (table ∷ [])) others

-- *Sound*: what each table is that is read. Its rows are rows of a valid schema, in order of the clustered key, no two of which
-- clash.
pub record IsSound (table : TableRows) : Type 0 where
  pub valid : IsValid table.schema
  pub is_table : IsTable table.schema table.rows

-- *Tables* of a plan of this version, of which one has the name of the migrated table
abbrev pub tables_of : ℕ → List ℕ → List TableData → Result Database TableRefusal
tables_of version migrated texts = tables_from version migrated 1 [] texts
