-- How far an attempt is once the RENAME is done.
use Rattle.std.specs.Prelude.{◌≡◌, true, List, None}
use Rattle.std.specs.List.{list_any}
use Rattle.table_store.specs.Databases.{Database}
use Rattle.server_model.specs.declared.entry.Entry.{Entry}
use Rattle.plan_data.specs.PlanData.{PlanData}
use Rattle.base_values.specs.ToolNames.{ghost_name}
use Rattle.tool_program.specs.JournalWords.Histories.{history, is_alter}
use Rattle.tool_program.specs.JournalWords.Journals.{state_at, IsFaithful}
use Rattle.tool_program.specs.declared.cutover_core.cutover.Clearing.TheVariants.{Looking, Drops}
use Rattle.tool_program.specs.declared.cutover_core.cutover.Phase.{Phase}
use Rattle.tool_program.specs.declared.cutover_core.cutover.Phase.TheVariants.{Resting, Attempting, Ending, Finishing, Finished}
use Rattle.tool_program.specs.Programs.{Follows}
use Rattle.tool_program.specs.Tools.{ToolPhase, SettingUp, Migrating, moment}
use Rattle.proof_journals.specs.Plans.{IsSerialPlan}
use Rattle.proof_journals.specs.Machine.Runnable.{IsRunnable}
use Rattle.proof_journals.specs.Machine.MigrationTables.{schema_of}

-- the tool looks at the tables, of which none has the new one's name; or it knows that the RENAME was done
abbrev pub IsRenamedAt : PlanData → Database → Phase → Type 0
IsRenamedAt plan tables Resting = ⊥
IsRenamedAt plan tables (Attempting stage) = ⊥
IsRenamedAt plan tables (Ending Looking) = schema_of (ghost_name plan.table) tables ≡ None
IsRenamedAt plan tables (Ending (Drops left)) = ⊥
IsRenamedAt plan tables (Finishing clearing) = Unit {0}
IsRenamedAt plan tables Finished = Unit {0}

abbrev pub ToolPhaseRenamed : PlanData → Database → ToolPhase → Type 0
ToolPhaseRenamed plan tables (SettingUp setup tries) = ⊥
ToolPhaseRenamed plan tables (Migrating work) = IsRenamedAt plan tables work.cutover.phase

-- *Renames are seen*: so it is after every journal in whose history the ALTER is.
abbrev pub RenamesAreSeen : Type 0
RenamesAreSeen = (plan : PlanData) (journal : List Entry) → IsRunnable plan → IsSerialPlan plan → IsFaithful plan journal → Follows plan journal → list_any is_alter (history plan journal) ≡ true → ToolPhaseRenamed plan (state_at plan journal).tables (moment plan journal).tool.tool_phase
