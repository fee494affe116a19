-- *Finished copies alter the table*: where the new tool's copier and applier start right, the new table is the altered one when the tables
-- are exchanged.
use Rattle.std.specs.Prelude.{◌≡◌, List, [], ◌∷◌, ◌++◌, length, drop, Option}
use Rattle.server_model.specs.Along.{Along}
use Rattle.server_model.specs.declared.answer.Answer.TheVariants as answers
use Rattle.server_model.specs.declared.answer.KeyRange.{KeyRange}
use Rattle.server_model.specs.declared.entry.Entry.{Entry}
use Rattle.plan_data.specs.PlanData.{PlanData}
use Rattle.tool_notes.specs.declared.checkpoint.Checkpoint.{Checkpoint}
use Rattle.tool_program.specs.JournalWords.Journals.{IsFaithful}
use Rattle.tool_finish.specs.declared.stage.Stage.TheVariants.{Ranging}
use Rattle.tool_finish.specs.Finishes.{applier_from, copier_from, stage_behind, IsFinish}
use Rattle.proof_journals.specs.Ghost.HeldKeys.{Clustered}
use Rattle.proof_journals.specs.Ghost.Rows.Moments.{Row}
use Rattle.proof_journals.specs.Ghost.Rows.Timelines.{Migration}
use Rattle.proof_journals.specs.Plans.{IsPlanRun}
use Rattle.proof_journals.specs.Run.Kept.{IsKept}
use Rattle.proof_migration.specs.Migration.Planning.{migration_of}
use Rattle.proof_migration.specs.Program.Turns.Goes.{StandsFor}
use Rattle.proof_migration.specs.Program.Turns.Laws.{IsMigrationOf}
use Rattle.proof_migration.specs.ToolPhase.Runnable.{IsAlterable}
use Rattle.proof_resume.specs.Finish.Runs.{ExchangesAltered}

-- *Starting right*: wherever the range of keys is answered, the migration stands for the new copier and the new applier.
abbrev pub StartsRight : (plan : PlanData) (m : Migration) → Clustered m.schema → List Row → List Entry → List Entry → Type 0
StartsRight plan m at rows run turns =
    Along (λ before entry. (found : Checkpoint) (range : Option KeyRange) → stage_behind plan run (drop (length run) before) ≡ Ranging found → entry.answer ≡ answers.Ends range → StandsFor plan m at rows (before ++ entry ∷ []) (copier_from plan found.reach range) (applier_from plan found.position)) run turns

-- *Finished copies alter the table*
abbrev pub FinishesAlter : Type 0
FinishesAlter =
    (plan : PlanData) (is : IsAlterable plan) (at : Clustered is.table.schema) (rows : List Row) → IsMigrationOf plan (migration_of is.table.schema is.new) rows → (run turns : List Entry) → IsPlanRun plan run → IsKept plan run → IsFinish plan run turns → IsFaithful plan (run ++ turns)
    → StartsRight plan (migration_of is.table.schema is.new) at rows run turns → ExchangesAltered plan run turns × IsPlanRun plan (run ++ turns)
