-- *Verdicts of finishes*: a new tool that is done exchanged the tables, or found them exchanged; one that reverts didn't, and it reverts only by
-- a row that doesn't fit.
use Rattle.std.specs.Prelude.{◌≡◌, ◌<◌, Bool, true, false, List, ◌++◌, length, Some}
use Rattle.std.specs.List.{list_any}
use Rattle.base_values.specs.declared.value.Value.{Value}
use Rattle.server_model.specs.Entries.{answer_at}
use Rattle.server_model.specs.declared.answer.Answer.TheVariants as answers
use Rattle.server_model.specs.declared.entry.Entry.{Entry}
use Rattle.server_model.specs.declared.outcome.Cause.{Cause}
use Rattle.server_model.specs.declared.outcome.Verdict.TheVariants as verdicts
use Rattle.plan_data.specs.PlanData.{PlanData}
use Rattle.tool_program.specs.JournalWords.Histories.{history, is_alter}
use Rattle.tool_program.specs.JournalWords.Journals.{IsFaithful}
use Rattle.tool_finish.specs.Checkpoints.{has_checkpoint}
use Rattle.tool_finish.specs.Finishes.{finish_verdict, unfit_cause, IsFinish}
use Rattle.tool_finish.specs.declared.stage.Refusal.{Refusal}
use Rattle.proof_journals.specs.Machine.Runnable.{IsRunnable}
use Rattle.proof_journals.specs.Plans.{IsSerialPlan}
use Rattle.proof_journals.specs.Run.Kept.{IsKept}

-- the table was altered: the ALTER is in the history
abbrev pub was_altered : PlanData → List Entry → Bool
was_altered plan journal = list_any is_alter (history plan journal)

-- *Done finishes altered*: where the new tool is done, the ALTER is in the history of the run's turns and its own.
abbrev pub DoneFinishesAltered : Type 0
DoneFinishesAltered =
    (plan : PlanData) (run turns : List Entry) → IsRunnable plan → IsSerialPlan plan → IsKept plan run → has_checkpoint plan run ≡ true → IsFinish plan run turns → IsFaithful plan (run ++ turns) → finish_verdict plan run turns ≡ verdicts.Done → was_altered plan (run ++ turns) ≡ true

-- *Reverted finishes didn't*
abbrev pub RevertedFinishesDidNot : Type 0
RevertedFinishesDidNot =
    (plan : PlanData) (run turns : List Entry) (cause : Cause) → IsRunnable plan → IsSerialPlan plan → IsKept plan run → IsFinish plan run turns → IsFaithful plan (run ++ turns) → finish_verdict plan run turns ≡ verdicts.Reverted cause → was_altered plan (run ++ turns) ≡ false

-- a row was refused at a turn of the new tool's own, by a column that it doesn't fit
pub record IsRefused (run turns : List Entry) (refusal : Refusal) : Type 0 where
  pub own : length run < refusal.turn
  pub refused : answer_at (run ++ turns) refusal.turn ≡ Some (answers.Refused refusal.number (Some refusal.column))

-- the row's refusal is the cause
pub record IsCausedBy (plan : PlanData) (run turns : List Entry) (cause : Cause) : Type 0 where
  pub refusal : Refusal
  pub key : List Value
  pub is_refused : IsRefused run turns refusal
  pub cause_is : cause ≡ unfit_cause plan refusal key

-- *Finishes revert by a row that doesn't fit*: the refusal is in the journal, at a turn of the new tool's.
abbrev pub FinishesRevertByRows : Type 0
FinishesRevertByRows = (plan : PlanData) (run turns : List Entry) (cause : Cause) → finish_verdict plan run turns ≡ verdicts.Reverted cause → IsCausedBy plan run turns cause
