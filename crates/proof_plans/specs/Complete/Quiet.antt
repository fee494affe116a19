-- What holds of a run of a plan with nobody but the tool.
use Rattle.std.specs.Prelude.{◌≡◌, ◌⊎◌, Bool, true, false, List, [], ◌∷◌, ◌++◌, Option, Some, None, Ok}
use Rattle.std.specs.List.{AllByRecursion, list_any}
use Rattle.base_values.specs.declared.value.Value.{Value}
use Rattle.base_values.specs.RowConversion.ConvertedRows.{converted_row}
use Rattle.table_store.specs.Databases.{TableRows, find_table}
use Rattle.base_script.specs.declared.actor.Actor.TheVariants.{Apply, Ren}
use Rattle.server_model.specs.Along.{Along}
use Rattle.server_model.specs.declared.answer.Answer.{Answer}
use Rattle.server_model.specs.declared.answer.Answer.TheVariants as answers
use Rattle.server_model.specs.declared.entry.Entry.{Entry}
use Rattle.server_model.specs.declared.outcome.Verdict.TheVariants.{Done}
use Rattle.plan_data.specs.PlanData.{PlanData, has_counter, new_map}
use Rattle.tool_program.specs.Orders.{actors, is_ready}
use Rattle.tool_program.specs.Online.{attempt_goes_on}
use Rattle.tool_program.specs.Tools.{is_renamed, moment}
use Rattle.tool_program.specs.Verdicts.{has_ended, verdict_of}
use Rattle.proof_journals.specs.Plans.{IsSerialPlan}
use Rattle.proof_journals.specs.Run.Kept.{IsKept}
use Rattle.proof_journals.specs.Machine.Runnable.{IsRunnable}
use Rattle.proof_plans.specs.ReadPlans.Laws.{WasRead}
use Rattle.proof_plans.specs.Complete.Laws.{gives_up}

-- *Quiet plan*: it has no client, no command of the operator's and no loss of a session.
pub record IsQuiet (plan : PlanData) : Type 0 where
  pub clients : plan.clients ≡ []
  pub operator : plan.operator ≡ []
  pub faults : plan.faults ≡ []

-- the row can be converted under the map of the ALTER
abbrev pub HasConvertedRow : PlanData → List Value → Type 0
HasConvertedRow plan row = (made : List Value) × (converted_row (new_map plan) row ≡ Ok made)

abbrev pub AllHaveConvertedRows : PlanData → Option TableRows → Type 0
AllHaveConvertedRows plan None = Unit {0}
AllHaveConvertedRows plan (Some table) = AllByRecursion (HasConvertedRow plan) table.rows

-- *Rows can be converted*: so can each of the migrated table's.
abbrev pub RowsHaveConvertedRows : PlanData → Type 0
RowsHaveConvertedRows plan = AllHaveConvertedRows plan (find_table plan.table plan.tables)

abbrev pub is_timed_out : Answer → Bool
is_timed_out (answers.TimedOut waited) = true
is_timed_out answer = false

-- *Within limits*: in this turn the renamer's wait isn't over, and where the migrated table has a counter, which may have to wait to be
-- set, no other's is; and no attempt has spent its turns for the drain.
pub record IsWithin (plan : PlanData) (before : List Entry) (entry : Entry) : Type 0 where
  pub timed : (entry.actor ≡ Ren) ⊎ (has_counter plan ≡ true) → is_timed_out entry.answer ≡ false
  pub drained : entry.actor ≡ Apply → attempt_goes_on (moment plan before).tool.tool_phase ≡ true → gives_up (moment plan (before ++ entry ∷ [])).tool.tool_phase ≡ false

-- *A run within limits*: each turn is, until the tool knows that the RENAME was done.
abbrev pub IsWithinLimits : PlanData → List Entry → Type 0
IsWithinLimits plan journal = Along (λ before entry. is_renamed (moment plan before).tool.tool_phase ≡ false → IsWithin plan before entry) [] journal

-- *Quiet runs are done*: of a quiet plan, each of whose rows can be converted, the verdict of a run within limits that has
-- ended is *done*.
abbrev pub QuietRunsAreDone : Type 0
QuietRunsAreDone =
    (plan : PlanData) (journal : List Entry) → IsQuiet plan → RowsHaveConvertedRows plan → IsRunnable plan → IsSerialPlan plan → IsKept plan journal → IsWithinLimits plan journal → has_ended plan journal ≡ true → verdict_of plan journal ≡ Done

-- *Accepted quiet runs are done*: of a plan that was read and is quiet, each of whose rows can be converted, the verdict of a
-- run within limits, in which no actor is ready any more, is *done*.
abbrev pub AcceptedQuietRunsAreDone : Type 0
AcceptedQuietRunsAreDone =
    (plan : PlanData) (journal : List Entry) → WasRead plan → IsQuiet plan → RowsHaveConvertedRows plan → IsKept plan journal → IsWithinLimits plan journal → list_any (is_ready plan journal) (actors plan) ≡ false → verdict_of plan journal ≡ Done
