-- The new tool starts where the run's checkpoint is.
use Rattle.std.specs.Prelude.{◌≡◌, ◌<◌, ℕ, ◌==◌, true, false, List, [], ◌∷◌, ◌++◌, Some}
use Rattle.table_store.specs.Databases.{find_table}
use Rattle.server_model.specs.declared.answer.Answer.{Answer}
use Rattle.server_model.specs.declared.answer.Answer.TheVariants as answers
use Rattle.server_model.specs.declared.entry.Entry.{Entry}
use Rattle.plan_data.specs.PlanData.{PlanData}
use Rattle.tool_program.specs.JournalWords.Journals.{IsFaithful, state_at}
use Rattle.tool_program.specs.Tools.{Migrating, Work, moment}
use Rattle.tool_notes.specs.declared.checkpoint.Checkpoint.{Checkpoint}
use Rattle.tool_finish.specs.declared.stage.Listed.{Listed}
use Rattle.tool_finish.specs.declared.stage.Stage.TheVariants.{Ranging, Reading}
use Rattle.tool_finish.specs.Callable.{IsFinishable}
use Rattle.tool_finish.specs.Checkpoints.{has_checkpoint}
use Rattle.tool_finish.specs.Finishes.{IsFinish, applier_from, copier_from, stage_behind}
use Rattle.proof_journals.specs.Machine.Runnable.{IsRunnable}
use Rattle.proof_journals.specs.Plans.{IsPlanRun, IsSerialPlan, limits_of, scene_of}
use Rattle.proof_journals.specs.Run.Kept.{IsKept}
use Rattle.proof_journals.specs.Ghost.HeldKeys.{Clustered}
use Rattle.proof_journals.specs.Ghost.Rows.Moments.{Row}
use Rattle.proof_journals.specs.Ghost.Rows.Timelines.{Migration}
use Rattle.proof_migration.specs.Migration.Copier.CopierPlace.{copy_state}
use Rattle.proof_migration.specs.Migration.Machines.{MigrationStands}
use Rattle.proof_migration.specs.Migration.Planning.{migration_of}
use Rattle.proof_migration.specs.ToolPhase.Runnable.{IsAlterable}
use Rattle.proof_migration.specs.ToolPhase.Unaltered.{IsUnaltered}
use Rattle.proof_migration.specs.Program.Turns.Laws.{IsMigrationOf}
use Rattle.proof_resume.specs.Reached.Checkpoints.{checkpoint_stored}
use Rattle.proof_resume.specs.Reached.Coverage.{IsBehindTool, left_in}
use Rattle.proof_bounds.specs.AttemptTurns.Attempts.{MayTry}
use Rattle.proof_resume.specs.Finish.Callable.{ReachKeyed}
use Rattle.proof_resume.specs.Finish.Runs.{ExchangesAltered}
use Rattle.proof_resume.specs.Finish.Walks.{StartsRight}
use Rattle.proof_plain.specs.Plans.{IsShort, PlainPlan}
use Rattle.proof_resume.specs.Starts.Beginnings.{IsStored, StageFinds, StartsFrom}
use Rattle.proof_resume.specs.Starts.Readings.{IsReadBehind}

-- *Stages find*: after a kept run before the RENAME whose setup is over, each stage of the new tool before its copy finds what it needs.
abbrev pub StagesFind : Type 0
StagesFind =
    (plan : PlanData) (m : Migration) (rows : List Row) → IsMigrationOf plan m rows → (run : List Entry) (work : Work) → IsKept plan run → IsUnaltered plan run → (moment plan run).tool.tool_phase ≡ Migrating work
    → (turns : List Entry) → IsFaithful plan (run ++ turns) → IsFinish plan run turns → StageFinds plan m run (run ++ turns) (stage_behind plan run turns)

-- *Reads answer the checkpoint*: where the checkpoint's row is stored, the first row that is answered is this row.
abbrev pub ReadsAnswerCheckpoint : Type 0
ReadsAnswerCheckpoint =
    (plan : PlanData) (m : Migration) (rows : List Row) → IsMigrationOf plan m rows → (run : List Entry) (work : Work) → IsKept plan run → IsUnaltered plan run → (moment plan run).tool.tool_phase ≡ Migrating work
    → (turns : List Entry) (entry : Entry) (listed : Listed) → stage_behind plan run turns ≡ Reading listed → IsFaithful plan (run ++ (turns ++ entry ∷ [])) → IsFinish plan run (turns ++ entry ∷ [])
    → (row : Row) → checkpoint_stored plan.table (state_at plan run).tables ≡ Some row → (others : List Row) × (entry.answer ≡ answers.Rows (row ∷ others))

-- *Ranges start the copy*: the answer to the call for the range is the range of the keys that now exist, with all as it was after the run.
abbrev pub RangesStart : Type 0
RangesStart =
    (plan : PlanData) (m : Migration) (at : Clustered m.schema) (rows : List Row) → IsMigrationOf plan m rows → find_table m.name plan.tables ≡ Some (record { schema = m.schema; rows = rows }) → (run : List Entry) (work : Work) → IsKept plan run → IsUnaltered plan run → (moment plan run).tool.tool_phase ≡ Migrating work
    → (turns : List Entry) (entry : Entry) (found : Checkpoint) → stage_behind plan run turns ≡ Ranging found → IsFaithful plan (run ++ (turns ++ entry ∷ [])) → IsFinish plan run (turns ++ entry ∷ [])
    → StartsFrom plan m rows run ((run ++ turns) ++ entry ∷ []) entry.answer

-- *Finishes start*: from there, and from a checkpoint that is behind the tool that was lost, the migration stands for the new copier and
-- the new applier, in any two sessions.
abbrev pub FinishesStart : Type 0
FinishesStart =
    (plan : PlanData) (m : Migration) (at : Clustered m.schema) (rows : List Row) → IsMigrationOf plan m rows → find_table m.name plan.tables ≡ Some (record { schema = m.schema; rows = rows }) → (run : List Entry) (work : Work) → IsKept plan run → IsUnaltered plan run → (moment plan run).tool.tool_phase ≡ Migrating work
    → (journal : List Entry) (answer : Answer) (start : StartsFrom plan m rows run journal answer) (found : Checkpoint) → IsBehindTool found work.applier.position (left_in (copy_state run work.copier)) → 0 < plan.options.chunk_size → 0 < plan.options.dml_batch_size
    → (copier applier : ℕ) → (copier == applier) ≡ false → (applier == copier) ≡ false
    → MigrationStands m at rows (limits_of plan) (scene_of plan []) journal (record { copier = copier_from plan found.reach start.range; copier_session = copier; applier = applier_from plan found.position; applier_session = applier })

-- *Checkpoints are read*: where the plan's values are plain, the row of a checkpoint that a run left in the changelog is read back as a
-- checkpoint that is behind the tool that was lost.
abbrev pub CheckpointsAreRead : Type 0
CheckpointsAreRead =
    (plan : PlanData) (m : Migration) (at : Clustered m.schema) (rows : List Row) → IsMigrationOf plan m rows → MayTry plan → PlainPlan plan → find_table m.name plan.tables ≡ Some (record { schema = m.schema; rows = rows }) → (run : List Entry) (work : Work) → IsKept plan run → IsUnaltered plan run
    → (moment plan run).tool.tool_phase ≡ Migrating work → IsShort run → (row : Row) → checkpoint_stored plan.table (state_at plan run).tables ≡ Some row → IsReadBehind run work row

-- *What is found is behind*: so is the checkpoint that the new tool found.
abbrev pub FoundIsBehind : Type 0
FoundIsBehind =
    (plan : PlanData) (m : Migration) (at : Clustered m.schema) (rows : List Row) → IsMigrationOf plan m rows → MayTry plan → PlainPlan plan → find_table m.name plan.tables ≡ Some (record { schema = m.schema; rows = rows }) → (run : List Entry) (work : Work) → IsKept plan run → IsUnaltered plan run
    → (moment plan run).tool.tool_phase ≡ Migrating work → IsShort run → (found : Checkpoint) → IsStored plan run found → IsBehindTool found work.applier.position (left_in (copy_state run work.copier))

-- *Finishes start right*: so wherever a new tool is answered the range of keys, the migration stands for its copier and its applier.
abbrev pub FinishesStartRight : Type 0
FinishesStartRight =
    (plan : PlanData) (m : Migration) (at : Clustered m.schema) (rows : List Row) → IsMigrationOf plan m rows → MayTry plan → PlainPlan plan → find_table m.name plan.tables ≡ Some (record { schema = m.schema; rows = rows }) → (run : List Entry) (work : Work) → IsKept plan run → IsUnaltered plan run
    → (moment plan run).tool.tool_phase ≡ Migrating work → IsShort run → (turns : List Entry) → IsFaithful plan (run ++ turns) → IsFinish plan run turns → StartsRight plan m at rows run turns

-- *Finishes exchange the altered table*: behind such a run the new table is the altered one when the new tool exchanges the tables, and
-- the run's turns and the new tool's are together a run of the plan.
abbrev pub FinishesExchangeAltered : Type 0
FinishesExchangeAltered =
    (plan : PlanData) (is : IsAlterable plan) (at : Clustered is.table.schema) → IsMigrationOf plan (migration_of is.table.schema is.new) is.table.rows → MayTry plan → PlainPlan plan → (run : List Entry) (work : Work) → IsKept plan run → IsUnaltered plan run
    → (moment plan run).tool.tool_phase ≡ Migrating work → IsShort run → (turns : List Entry) → IsFaithful plan (run ++ turns) → IsFinish plan run turns → ExchangesAltered plan run turns × IsPlanRun plan (run ++ turns)

-- *What is found is keyed*: it reaches to a key of the migrated table, whatever the plan's values are.
abbrev pub FoundIsKeyed : Type 0
FoundIsKeyed =
    (plan : PlanData) (run : List Entry) (work : Work) → IsRunnable plan → IsSerialPlan plan → MayTry plan → IsKept plan run → IsUnaltered plan run → (moment plan run).tool.tool_phase ≡ Migrating work → (found : Checkpoint) → IsStored plan run found → ReachKeyed plan found.reach

-- *Kept runs are finishable*: behind a kept run that has a checkpoint each call of the new tool may be made of the server as it then is,
-- whether the RENAME was done or not.
abbrev pub KeptRunsAreFinishable : Type 0
KeptRunsAreFinishable =
    (plan : PlanData) (m : Migration) (at : Clustered m.schema) (rows : List Row) → IsMigrationOf plan m rows → MayTry plan → find_table m.name plan.tables ≡ Some (record { schema = m.schema; rows = rows }) → (run : List Entry) → IsKept plan run → has_checkpoint plan run ≡ true → IsFinishable plan run
