-- The new tool reads the checkpoint that the run left, whether the RENAME was done or not.
use Rattle.std.specs.Prelude.{◌≡◌, true, List, ◌++◌, Some}
use Rattle.table_store.specs.Databases.{find_table}
use Rattle.server_model.specs.declared.entry.Entry.{Entry}
use Rattle.plan_data.specs.PlanData.{PlanData}
use Rattle.tool_program.specs.JournalWords.Journals.{IsFaithful}
use Rattle.tool_finish.specs.Checkpoints.{has_checkpoint}
use Rattle.tool_finish.specs.Finishes.{IsFinish}
use Rattle.proof_journals.specs.Ghost.HeldKeys.{Clustered}
use Rattle.proof_journals.specs.Ghost.Rows.Moments.{Row}
use Rattle.proof_journals.specs.Ghost.Rows.Timelines.{Migration}
use Rattle.proof_journals.specs.Plans.{IsPlanRun}
use Rattle.proof_journals.specs.Run.Kept.{IsKept}
use Rattle.proof_migration.specs.Program.Turns.Laws.{IsMigrationOf}
use Rattle.proof_bounds.specs.AttemptTurns.Attempts.{MayTry}
use Rattle.proof_plain.specs.Plans.{IsShort, PlainPlan}
use Rattle.proof_resume.specs.Finish.Counts.{ReadsCheckpoint}

-- *Finishes read the checkpoint*: behind a kept run that has one the answer of the SELECT has its row, where the plan's values are plain.
abbrev pub FinishesReadCheckpoints : Type 0
FinishesReadCheckpoints =
    (plan : PlanData) (m : Migration) (at : Clustered m.schema) (rows : List Row) → IsMigrationOf plan m rows → MayTry plan → PlainPlan plan → find_table m.name plan.tables ≡ Some (record { schema = m.schema; rows = rows }) → ((before : List Entry) → IsKept plan before → IsPlanRun plan before)
    → (run turns : List Entry) → IsKept plan run → IsShort run → has_checkpoint plan run ≡ true → IsFinish plan run turns → IsFaithful plan (run ++ turns) → ReadsCheckpoint plan run turns
