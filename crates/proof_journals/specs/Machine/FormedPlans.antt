-- What is asked of a plan, so that what its program asks of the server is well formed.
use Rattle.std.specs.Prelude.{◌≤◌, [], ◌∷◌}
use Rattle.std.specs.List.{AllByRecursion}
use Rattle.base_script.specs.declared.operator.OperatorWord.{OperatorWord}
use Rattle.base_script.specs.declared.operator.OperatorWord.TheVariants.{ChunkSize}
use Rattle.base_values.specs.SchemaRules.Valid.{IsValid}
use Rattle.server_model.specs.Conditions.{IsTableName}
use Rattle.plan_data.specs.PlanData.{PlanData, new_schema}
use Rattle.base_values.specs.ToolNames.{ghost_name, log_name, old_name}
use Rattle.tool_program.specs.JournalWords.KeptPlans.{words_of}
use Rattle.proof_journals.specs.Machine.Scripts.{ScriptsFit}

-- a chunk holds at least one row
abbrev pub SizeFits : OperatorWord → Type 0
SizeFits (ChunkSize size) = 1 ≤ size
SizeFits word = Unit {0}

-- *Fitting plan*: its scripts' transactions are whole; the migrated table's name leaves room for those of the tool's tables;
-- chunks and batches aren't empty; and the altered schema is valid. (What a plan's reader asks of it, and what an ALTER that is
-- taken leaves.)
pub record IsFitting (plan : PlanData) : Type 0 where
  pub scripts : ScriptsFit plan
  pub names : AllByRecursion IsTableName (plan.table ∷ ghost_name plan.table ∷ log_name plan.table ∷ old_name plan.table ∷ [])
  pub chunk : 1 ≤ plan.options.chunk_size
  pub commands : AllByRecursion SizeFits (words_of plan)
  pub batch : 1 ≤ plan.options.dml_batch_size
  pub valid : IsValid (new_schema plan)
