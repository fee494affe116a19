-- What holds of the workload of every number. The functions of `law_texts::workload` prove each.
use Rattle.std.specs.Prelude.{◌≡◌, ℕ, false, List, [], ◌∷◌, Ok}
use Rattle.std.specs.List.{list_any}
use Rattle.std.specs.Str.{bytes_eq}
use Rattle.base_values.specs.GhoSchema.Tables.{IsTable}
use Rattle.base_values.specs.SchemaRules.Valid.{IsValid}
use Rattle.sql_create.specs.CreateText.{schema_at}
use Rattle.sql_change.specs.AlteredSchema.{altered}
use Rattle.sql_alter.specs.AlterText.{alter_at}
use Rattle.sql_statement.specs.Scripts.{script_of}
use Rattle.plan_reader.specs.PlanTables.Tables.{tables_of}
use Rattle.top_workload.specs.Workloads.{row_count}
use Rattle.law_texts.specs.Workloads.Document.Plans.{table_texts}
use Rattle.law_texts.specs.Workloads.Document.Texts.{table_name, create_text, alter_text, client_state, script_text}
use Rattle.law_texts.specs.Workloads.Alters.{clauses, altered_schema, altered_map}
use Rattle.law_texts.specs.Workloads.Rows.{table_schema, opening_rows, opening_table}
use Rattle.law_texts.specs.Workloads.Scripts.{script}

-- Its CREATE TABLE is read as this valid schema, and its ALTER as these clauses, which make this valid schema of it.
pub record AltersAreTaken : Type 0 where
  pub created : schema_at 1 table_name create_text ≡ Ok table_schema
  pub valid : IsValid table_schema
  pub said : alter_at 1 table_name alter_text ≡ Ok clauses
  pub taken : altered false table_schema clauses ≡ Ok (altered_schema, altered_map)
  pub altered_valid : IsValid altered_schema

-- Its rows are read as these, one table's.
abbrev pub TablesAreRead : Type 0
TablesAreRead = (number : ℕ) → tables_of 1 table_name (table_texts number ∷ []) ≡ Ok (opening_table number ∷ [])

-- They are rows of its columns in order of their keys, and no two clash.
abbrev pub TablesAreTables : Type 0
TablesAreTables = (number : ℕ) → IsTable table_schema (opening_rows number)

-- Each client's script is read as these statements, whatever the tool's tables are, if none of them is the workload's own.
abbrev pub ScriptsAreRead : Type 0
ScriptsAreRead =
    (number client : ℕ) (tools : List (List ℕ)) → list_any (λ table. bytes_eq table table_name) tools ≡ false
    → script_of tools (script_text (row_count number) (client_state number client)) ≡ Ok (script (row_count number) (client_state number client))
