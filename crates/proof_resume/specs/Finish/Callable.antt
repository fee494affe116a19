-- *Finishes may call*: what the new tool asks may be asked of the server as it then is.
use Rattle.std.specs.Prelude.{◌≡◌, ◌⊎◌, List, ◌++◌, None, Some}
use Rattle.base_values.specs.ToolNames.{ghost_name}
use Rattle.table_store.specs.Databases.{find_table}
use Rattle.server_model.specs.declared.entry.Entry.{Entry}
use Rattle.plan_data.specs.PlanData.{PlanData}
use Rattle.tool_changelog.specs.declared.checkpoint.Reach.{Reach}
use Rattle.tool_changelog.specs.declared.checkpoint.Reach.TheVariants as reaches
use Rattle.tool_notes.specs.declared.checkpoint.Checkpoint.{Checkpoint}
use Rattle.tool_program.specs.JournalWords.Journals.{state_at, IsFaithful}
use Rattle.tool_program.specs.Tools.{Migrating, Work, moment}
use Rattle.tool_finish.specs.declared.stage.Stage.TheVariants.{Ranging}
use Rattle.tool_finish.specs.Callable.{IsFinishable}
use Rattle.tool_finish.specs.Finishes.{stage_behind, IsFinish}
use Rattle.proof_journals.specs.Ghost.HeldKeys.{Clustered}
use Rattle.proof_journals.specs.Ghost.Rows.Moments.{Row}
use Rattle.proof_journals.specs.Ghost.Rows.Timelines.{Migration}
use Rattle.proof_journals.specs.Machine.MigrationTables.{schema_of, TablesExist}
use Rattle.proof_journals.specs.Machine.Runnable.{IsRunnable}
use Rattle.proof_journals.specs.Machine.TableKeys.{IsKey}
use Rattle.proof_journals.specs.Plans.{IsSerialPlan}
use Rattle.proof_journals.specs.Run.Kept.{IsKept}
use Rattle.proof_migration.specs.Program.Turns.Laws.{IsMigrationOf}
use Rattle.proof_migration.specs.ToolPhase.Unaltered.{IsUnaltered}

-- the key of a checkpoint's reach is of the kinds of the migrated table's key
abbrev pub ReachKeyed : PlanData → Reach → Type 0
ReachKeyed plan reaches.Nothing = Unit {0}
ReachKeyed plan (reaches.To key) = IsKey plan key
ReachKeyed plan reaches.All = Unit {0}

-- *What a run leaves*: before the RENAME both tables, with their schemas; behind it no table of the new one's name
abbrev pub LeavesTables : PlanData → List Entry → Type 0
LeavesTables plan run = (IsUnaltered plan run × TablesExist plan (state_at plan run).tables) ⊎ (schema_of (ghost_name plan.table) (state_at plan run).tables ≡ None)

-- before the RENAME each checkpoint that the new tool finds reaches to a key of the migrated table
abbrev pub FindsKeys : PlanData → List Entry → Type 0
FindsKeys plan run = (turns : List Entry) (found : Checkpoint) → IsUnaltered plan run → IsFaithful plan (run ++ turns) → IsFinish plan run turns → stage_behind plan run turns ≡ Ranging found → ReachKeyed plan found.reach

-- *Finishes may call*: behind a kept run that left its tables so each call of the new tool may be made, where the checkpoints that it finds
-- reach to keys of the migrated table.
abbrev pub FinishesMayCall : Type 0
FinishesMayCall = (plan : PlanData) (run : List Entry) → IsRunnable plan → IsSerialPlan plan → IsKept plan run → LeavesTables plan run → FindsKeys plan run → IsFinishable plan run

-- *Kept runs leave their tables* so, once the setup is over.
abbrev pub KeptRunsLeaveTables : Type 0
KeptRunsLeaveTables =
    (plan : PlanData) (m : Migration) (at : Clustered m.schema) (rows : List Row) → IsMigrationOf plan m rows → find_table m.name plan.tables ≡ Some (record { schema = m.schema; rows = rows }) → (run : List Entry) (work : Work) → IsKept plan run → (moment plan run).tool.tool_phase ≡ Migrating work → LeavesTables plan run
