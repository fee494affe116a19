-- The table of a workload is a table.
use Rattle.std.proofs.Common.{ℕ, [], ◌∷◌}
use Rattle.base_values.specs.GhoSchema.Tables.{IsTable}
use Rattle.sql_create.specs.Laws.{ReadSchemasAreValid}
use Rattle.plan_reader.proofs.PlanTables.Sound.{Laws, tables_are}
use Rattle.law_texts.specs.Workloads.Document.Plans.{table_texts}
use Rattle.law_texts.specs.Workloads.Rows.{table_schema, opening_rows, opening_table}
use Rattle.law_texts.proofs.Workloads.TablesRead.{tables_read}
use Rattle.law_texts.specs.Workloads.Document.Texts.{table_name}

pub tables_sound : Laws → ReadSchemasAreValid → (number : ℕ) → IsTable table_schema (opening_rows number)
tables_sound laws valid number = (tables_are laws valid 1 table_name 1 [] (table_texts number ∷ []) (opening_table number ∷ []) tt (tables_read number)).0.is_table
