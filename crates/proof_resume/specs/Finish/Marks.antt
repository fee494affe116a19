-- *Finishes alter once*: behind a run in which the RENAME was done the new table isn't listed, so that the new tool exchanges no tables; else
-- it exchanges them once at most.
use Rattle.std.specs.Prelude.{◌≤◌, List, ◌++◌, count_by}
use Rattle.server_model.specs.declared.entry.Entry.{Entry}
use Rattle.plan_data.specs.PlanData.{PlanData}
use Rattle.tool_program.specs.JournalWords.Histories.{history, is_alter}
use Rattle.tool_program.specs.JournalWords.Journals.{IsFaithful}
use Rattle.tool_finish.specs.Finishes.{IsFinish}
use Rattle.proof_journals.specs.Machine.Runnable.{IsRunnable}
use Rattle.proof_journals.specs.Plans.{IsSerialPlan}
use Rattle.proof_journals.specs.Run.Kept.{IsKept}

-- *Finishes alter once*: the ALTER is at most once in the history of the run's turns and the new tool's together.
abbrev pub FinishesAlterOnce : Type 0
FinishesAlterOnce = (plan : PlanData) (run turns : List Entry) → IsRunnable plan → IsSerialPlan plan → IsKept plan run → IsFinish plan run turns → IsFaithful plan (run ++ turns) → count_by is_alter (history plan (run ++ turns)) ≤ 1
