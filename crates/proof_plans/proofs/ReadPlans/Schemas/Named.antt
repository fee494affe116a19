-- The tables of a plan have different names.
use Rattle.std.proofs.Common.{◌≡◌, ℕ, false, List, [], ◌∷◌, ◌++◌, Ok, refl, subst, ◌∙◌}
use Rattle.std.proofs.lemmas.Bool.{or_parts}
use Rattle.std.proofs.lemmas.List.Folds.{list_any-append}
use Rattle.table_store.proofs.NamedTables.{other_way}
use Rattle.table_store.specs.Databases.{TableRows, Database, is_named, has_table, NamesDiffer}
use Rattle.base_values.proofs.SchemaRules.Steps.{bind_ok, ok_is}
use Rattle.sql_create.specs.Laws.{ReadSchemasAreValid}
use Rattle.plan_keys.specs.Limits.{TableData}
use Rattle.plan_reader.proofs.PlanTables.Sound.{Laws, table_is}
use Rattle.plan_reader.specs.PlanTables.Rows.{next_number}
use Rattle.plan_reader.specs.PlanTables.Tables.{table_at, tables_from}

following : (name : List ℕ) (tables : Database) (new : TableRows) → has_table name tables ≡ false → is_named name new ≡ false → has_table name (tables ++ new ∷ []) ≡ false
following name tables new none other = list_any-append (is_named name) tables (new ∷ []) ∙ rw (none, other) refl

added : (tables : Database) (new : TableRows) → NamesDiffer tables → has_table new.schema.name tables ≡ false → NamesDiffer (tables ++ new ∷ [])
added [] new differ none = (refl, tt)
added (table ∷ tables) new differ none =
    let parts = or_parts (is_named new.schema.name table) (has_table new.schema.name tables) none in
    (following table.schema.name tables new differ.0 (other_way table.schema.name new.schema.name _ parts.0 refl), added tables new differ.1 parts.1)

pub differ_from : Laws → ReadSchemasAreValid → (version : ℕ) (migrated : List ℕ) (number : ℕ) (tables : Database) (texts : List TableData) (made : Database) → NamesDiffer tables → tables_from version migrated number tables texts ≡ Ok made → NamesDiffer made
unfolding tables_from
differ_from laws valid version migrated number tables [] made differ is = subst NamesDiffer (ok_is tables made is) differ
differ_from laws valid version migrated number tables (first ∷ texts) made differ is =
    let table = bind_ok (table_at version migrated number tables first) (λ table. tables_from version migrated (next_number number) (tables ++ (table ∷ [])) texts) made is in
    let read = table_is laws valid version migrated number tables first table.0 table.1 in
    differ_from laws valid version migrated (next_number number) (tables ++ (table.0 ∷ [])) texts made (added tables table.0 differ read.new) table.2
