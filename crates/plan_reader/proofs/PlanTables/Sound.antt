-- Tables that are read are tables of lawful schemas.
use Rattle.std.proofs.Common.{◌≡◌, ℕ, false, cond, is_some, List, [], ◌∷◌, ◌++◌, Option, Some, None, Result, Ok, Err, IfOk, refl, sym, subst}
use Rattle.std.specs.List.{AllByRecursion}
use Rattle.std.specs.Option.{option_and_then}
use Rattle.base_values.specs.declared.value.Value.{Value}
use Rattle.base_values.specs.Laws.{StoresAgain}
use Rattle.base_values.specs.declared.gho_schema.schema.Schema.{Schema}
use Rattle.base_values.specs.GhoSchema.Rows.{key_places, with_row}
use Rattle.base_values.specs.GhoSchema.Tables.{IsRow, IsTable}
use Rattle.table_store.specs.ClusteredKeys.{HasClusteredKey}
use Rattle.table_store.specs.Databases.{TableRows, Database, clashing, has_table}
use Rattle.table_store.specs.PagedTables.RowPages.StoredRows.{PagedTable}
use Rattle.table_store.specs.Laws.{PutKeepsTables}
use Rattle.base_values.proofs.SchemaRules.Lists.{All-append}
use Rattle.base_values.proofs.SchemaRules.Steps.{bind_ok, kept_out}
use Rattle.base_values.specs.SchemaRules.Valid.{IsValid}
use Rattle.base_values.specs.SchemaRules.Results.{◌>>=◌}
use Rattle.sql_create.specs.Laws.{ReadSchemasAreValid}
use Rattle.sql_create.specs.CreateText.{schema_at}
use Rattle.sql_grammar.specs.Tokens.{text_words}
use Rattle.sql_grammar.specs.declared.code.SchemaCode.{SchemaCode}
use Rattle.plan_keys.specs.Limits.{TableData}
use Rattle.plan_data.proofs.KeyedSchemas.{valid_keyed}
use Rattle.base_values.specs.declared.fault.Fault.{Fault}
use Rattle.plan_reader.specs.declared.plan_tables.fault.TableRefusal.{TableRefusal}
use Rattle.plan_reader.specs.PlanTables.RowTexts.{row_at}
use Rattle.plan_reader.specs.PlanTables.Rows.{with_put, put_text, or_bad, next_number, put_texts}
use Rattle.plan_reader.specs.PlanTables.Tables.{of_schema, of_rows, newly_named, table_at, tables_from, IsSound}
use Rattle.plan_reader.proofs.PlanTables.RowFits.{row_fits}

-- what the laws of the crates below say
pub record Laws : Type 0 where
  pub again : StoresAgain
  pub put : PutKeepsTables

-- ---- rows

-- a row that is put clashes with none
pub none_clashes : (o : Option (List Value)) (made table : TableRows) → cond (is_some o) None (Some made) ≡ Some table → (o ≡ None) × (made ≡ table)
none_clashes None made table is = (refl, cc)
none_clashes (Some row) made table is = absurd (cc)

-- a table of the same schema, whose rows are those of a table
pub record IsKept (schema : Schema) (table : TableRows) : Type 0 where
  pub schema_is : table.schema ≡ schema
  pub is_table : IsTable table.schema table.rows

put_kept : Laws → (table made : TableRows) (row : List Value) → HasClusteredKey table.schema → IsTable table.schema table.rows → IsRow table.schema.columns row → with_put table row ≡ Some made → IsKept table.schema made
put_kept laws table made row keyed is_table fits is =
    let new : TableRows = record { schema = table.schema; rows = with_row (key_places table.schema) row table.rows } in
    let parts = none_clashes (clashing table row None) new made is in
    let both = laws.put table row keyed is_table fits parts.0 in
    subst (IsKept table.schema) parts.1 (record { schema_is = refl; is_table = both.1 })

row_then : (o : Option (List Value)) (goes : List Value → Option TableRows) (made : TableRows) → option_and_then goes o ≡ Some made → (row : List Value) × (o ≡ Some row) × (goes row ≡ Some made)
row_then None goes made is = absurd (cc)
row_then (Some row) goes made is = (row, refl, is)

pub text_kept : Laws → (table made : TableRows) (text : List ℕ) → HasClusteredKey table.schema → IsTable table.schema table.rows → put_text table text ≡ Some made → IsKept table.schema made
unfolding put_text
text_kept laws table made text keyed is_table is =
    let row = row_then (row_at table.schema.columns text) (with_put table) made is in
    put_kept laws table made row.0 keyed is_table (row_fits laws.again table.schema.columns (text_words text) row.0 row.1) row.2

found : (o : Option TableRows) (number : ℕ) (goes : TableRows → Result TableRows ℕ) (made : TableRows) → (or_bad number o >>= goes) ≡ Ok made → (table : TableRows) × (o ≡ Some table) × (goes table ≡ Ok made)
found None number goes made is = absurd (cc)
found (Some table) number goes made is = (table, refl, is)

same_schema : (schema : Schema) (table made : TableRows) → table.schema ≡ schema → IsKept table.schema made → IsKept schema made
same_schema schema table made same kept = subst (λ (s : Schema). IsKept s made) same kept

pub texts_kept : Laws → (number : ℕ) (table made : TableRows) (texts : List (List ℕ)) → HasClusteredKey table.schema → IsTable table.schema table.rows → put_texts number table texts ≡ Ok made → IsKept table.schema made
unfolding put_texts
texts_kept laws number table made [] keyed is_table is =
    let same : table ≡ made = cc in
    subst (IsKept table.schema) same (record { schema_is = refl; is_table = is_table })
texts_kept laws number table made (text ∷ texts) keyed is_table is =
    let first = found (put_text table text) number (λ table. put_texts (next_number number) table texts) made is in
    let kept = text_kept laws table first.0 text keyed is_table first.1 in
    let key : HasClusteredKey first.0.schema = subst HasClusteredKey (sym kept.schema_is) keyed in
    same_schema table.schema first.0 made kept.schema_is (texts_kept laws (next_number number) first.0 made texts key kept.is_table first.2)

-- ---- the clustered key of a lawful schema

-- ---- tables

pub schema_was : (number : ℕ) (read : Result Schema SchemaCode) (schema : Schema) → of_schema number read ≡ Ok schema → read ≡ Ok schema
schema_was number (Ok x) schema is = cc
schema_was number (Err code) schema is = absurd (cc)

pub rows_were : (number : ℕ) (read : Result TableRows ℕ) (table : TableRows) → of_rows number read ≡ Ok table → read ≡ Ok table
rows_were number (Ok x) table is = cc
rows_were number (Err row) table is = absurd (cc)

-- a table that was read is sound, and has a new name
pub record IsReadTable (tables : Database) (table : TableRows) : Type 0 where
  pub sound : IsSound table
  pub new : has_table table.schema.name tables ≡ false

pub table_is : Laws → ReadSchemasAreValid → (version : ℕ) (migrated : List ℕ) (number : ℕ) (tables : Database) (texts : TableData) (table : TableRows) → table_at version migrated number tables texts ≡ Ok table → IsReadTable tables table
unfolding table_at
table_is laws valid version migrated number tables texts table is =
    let schema = bind_ok (of_schema number (schema_at version migrated texts.create)) _ table is in
    let empty = bind_ok (newly_named number tables schema.0) _ table schema.2 in
    let is_valid = valid version migrated texts.create schema.0 (schema_was number (schema_at version migrated texts.create) schema.0 schema.1) in
    let bare : TableRows = record { schema = schema.0; rows = [] } in
    let parts = kept_out (has_table schema.0.name tables) bare empty.0 _ empty.1 in
    let put : put_texts 1 bare texts.rows ≡ Ok table = subst (λ (t : TableRows). put_texts 1 t texts.rows ≡ Ok table) (sym parts.1) (rows_were number (put_texts 1 empty.0 texts.rows) table empty.2) in
    let kept = texts_kept laws 1 bare table texts.rows (valid_keyed schema.0 is_valid) (record { rows_fit = tt; ascends = tt; apart = tt }) put in
    record {
      sound = record { valid = subst IsValid (sym kept.schema_is) is_valid; is_table = kept.is_table };
      new = subst (λ (s : Schema). has_table s.name tables ≡ false) (sym kept.schema_is) parts.0;
    }

pub tables_are : Laws → ReadSchemasAreValid → (version : ℕ) (migrated : List ℕ) (number : ℕ) (tables : Database) (texts : List TableData) (made : Database) → AllByRecursion IsSound tables → tables_from version migrated number tables texts ≡ Ok made → AllByRecursion IsSound made
unfolding tables_from
tables_are laws valid version migrated number tables [] made all is =
    let same : tables ≡ made = cc in
    subst (AllByRecursion IsSound) same all
tables_are laws valid version migrated number tables (first ∷ texts) made all is =
    let table = bind_ok (table_at version migrated number tables first) (λ table. tables_from version migrated (next_number number) (tables ++ (table ∷ [])) texts) made is in
    let read = table_is laws valid version migrated number tables first table.0 table.1 in
    tables_are laws valid version migrated (next_number number) (tables ++ (table.0 ∷ [])) texts made (All-append IsSound tables (table.0 ∷ []) all (read.sound, tt)) table.2

-- a table without rows, of a lawful schema
pub new_keyed : (number : ℕ) (tables : Database) (schema : Schema) (table : TableRows) → IsValid schema → newly_named number tables schema ≡ Ok table → HasClusteredKey table.schema
new_keyed number tables schema table valid is =
    let parts = kept_out (has_table schema.name tables) (record { schema = schema; rows = [] }) table _ is in
    subst (λ (t : TableRows). HasClusteredKey t.schema) parts.1 (valid_keyed schema valid)

-- a table that was read has the name of its schema
pub still_new : (found : Result PagedTable (Fault TableRefusal)) (schema : Schema) (tables : Database) → IfOk found (λ read. read.table.schema ≡ schema) → has_table schema.name tables ≡ false → IfOk found (λ read. has_table read.table.schema.name tables ≡ false)
still_new (Ok read) schema tables is new = subst (λ (s : Schema). has_table s.name tables ≡ false) (sym is) new
still_new (Err fault) schema tables is new = tt
