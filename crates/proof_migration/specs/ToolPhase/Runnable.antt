-- What holds of every plan whose ALTER can be done, so that its program may run.
use Rattle.std.specs.Prelude.{◌≡◌, ◌≤◌, [], ◌∷◌, Some}
use Rattle.std.specs.List.{AllByRecursion}
use Rattle.base_values.specs.GhoSchema.Tables.{IsTable}
use Rattle.proof_schemas.specs.Alters.Laws.{IsClause}
use Rattle.table_store.specs.Databases.{TableRows, find_table}
use Rattle.base_values.specs.SchemaRules.Valid.{IsValid}
use Rattle.server_model.specs.LockedRows.Coverage.{IsWellFormedTable}
use Rattle.server_model.specs.Conditions.{IsTableName}
use Rattle.plan_data.specs.PlanData.{PlanData, Altered, altered_by}
use Rattle.plan_data.specs.KeptRows.{KeepsRows}
use Rattle.base_values.specs.ToolNames.{ghost_name, log_name, old_name}
use Rattle.tool_program.specs.JournalWords.KeptPlans.{words_of}
use Rattle.proof_journals.specs.Machine.FormedPlans.{SizeFits}
use Rattle.proof_journals.specs.Machine.Runnable.{IsRunnable}
use Rattle.proof_journals.specs.Machine.Scripts.{ScriptsFit}

-- *Worded plan*: what a plan's reader asks of its words, beside its table and what its ALTER makes of that. The scripts'
-- transactions are whole; the migrated table's name leaves room for those of the tool's tables; neither chunks nor batches
-- are empty, whatever the operator sets; and the clauses write kinds that there are.
pub record IsWorded (plan : PlanData) : Type 0 where
  pub scripts : ScriptsFit plan
  pub names : AllByRecursion IsTableName (plan.table ∷ ghost_name plan.table ∷ log_name plan.table ∷ old_name plan.table ∷ [])
  pub chunk : 1 ≤ plan.options.chunk_size
  pub commands : AllByRecursion SizeFits (words_of plan)
  pub batch : 1 ≤ plan.options.dml_batch_size
  pub clauses : AllByRecursion IsClause plan.alter

-- *Alterable plan*: its tables, one or several, are tables with clustered keys; the migrated one, of a valid schema, is among
-- them; and its ALTER is taken and keeps the keys of its rows. (What a plan's reader leaves of a plan.)
pub record IsAlterable (plan : PlanData) : Type 0 where
  pub tables : AllByRecursion IsWellFormedTable plan.tables
  pub table : TableRows
  pub found : find_table plan.table plan.tables ≡ Some table
  pub is_table : IsTable table.schema table.rows
  pub valid : IsValid table.schema
  pub new : Altered
  pub alters : altered_by plan table.schema ≡ Some new
  pub keeps : KeepsRows table.schema new

-- *Alterable plans are runnable*, where their words fit.
abbrev pub AlterablePlansAreRunnable : Type 0
AlterablePlansAreRunnable = (plan : PlanData) → IsAlterable plan → IsWorded plan → IsRunnable plan
