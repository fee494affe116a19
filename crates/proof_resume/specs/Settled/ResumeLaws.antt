-- A new tool starts from a checkpoint that is behind the tool that was lost.
use Rattle.std.specs.Prelude.{◌≡◌, ◌<◌, ℕ, ◌==◌, false, List, [], Option, Some}
use Rattle.base_values.specs.declared.span.Span.{Span}
use Rattle.table_store.specs.Databases.{find_table}
use Rattle.server_model.specs.declared.answer.KeyRange.{KeyRange}
use Rattle.server_model.specs.declared.entry.Entry.{Entry}
use Rattle.plan_data.specs.PlanData.{PlanData}
use Rattle.tool_notes.specs.declared.checkpoint.Checkpoint.{Checkpoint}
use Rattle.tool_program.specs.JournalWords.Journals.{state_at}
use Rattle.tool_program.specs.Tools.{Migrating, Work, moment}
use Rattle.tool_finish.specs.Finishes.{applier_from, copier_from, range_from}
use Rattle.proof_journals.specs.Scenes.{Stored, no_hold}
use Rattle.proof_journals.specs.Holdings.{stored}
use Rattle.proof_journals.specs.Plans.{limits_of, scene_of}
use Rattle.proof_journals.specs.Run.Kept.{IsKept}
use Rattle.proof_journals.specs.Ghost.HeldKeys.{Clustered}
use Rattle.proof_journals.specs.Ghost.Rows.Moments.{Row}
use Rattle.proof_journals.specs.Ghost.Rows.Timelines.{IsPlanned, Migration}
use Rattle.proof_migration.specs.Migration.Copier.CopierPlace.{copy_state}
use Rattle.proof_migration.specs.Migration.Machines.{MigrationStands, hold_at}
use Rattle.proof_migration.specs.ToolPhase.Unaltered.{IsUnaltered}
use Rattle.proof_migration.specs.Program.Turns.Laws.{IsMigrationOf}
use Rattle.proof_resume.specs.Reached.Coverage.{IsBehindTool, left_in}
use Rattle.proof_resume.specs.Settled.NewTable.{IsSettled}
use Rattle.proof_resume.specs.Settled.Ranges.{IsRangeNow, range_left}

-- *Checkpoints settle*: where the new table is settled at a position, with what is left, it is settled at each checkpoint behind, with
-- the range from the checkpoint's reach to the greatest key that now exists.
abbrev pub CheckpointsSettle : Type 0
CheckpointsSettle =
    (m : Migration) (rows : List Row) (now : Stored) (position : ℕ) (left : Option Span) (made : List Row) (found : Checkpoint) (range : Option KeyRange) → IsPlanned m rows → IsBehindTool found position left → IsRangeNow m rows now range → IsSettled m rows now position left made
    → IsSettled m rows now found.position (range_left (range_from found.reach range)) made

-- after these turns both tables and the log are as after those
pub record KeepTables (plan : PlanData) (m : Migration) (run journal : List Entry) : Type 0 where
  pub log : (state_at plan journal).log ≡ (state_at plan run).log
  pub old : find_table m.name (state_at plan journal).tables ≡ find_table m.name (state_at plan run).tables
  pub new : find_table m.new.name (state_at plan journal).tables ≡ find_table m.new.name (state_at plan run).tables

-- *Resumes start*: after a kept run before the RENAME whose setup is over, whether all is reverted or not, with a checkpoint behind its
-- tool, and further turns that leave both tables and the log as they are and every session without a hold, the migration stands for a
-- new copier from the checkpoint's reach to the greatest key that now exists, and a new applier from its position.
abbrev pub ResumesStart : Type 0
ResumesStart =
    (plan : PlanData) (m : Migration) (at : Clustered m.schema) (rows : List Row) → IsMigrationOf plan m rows → find_table m.name plan.tables ≡ Some (record { schema = m.schema; rows = rows }) → (run : List Entry) (work : Work) → IsKept plan run → IsUnaltered plan run → (moment plan run).tool.tool_phase ≡ Migrating work
    → (found : Checkpoint) → IsBehindTool found work.applier.position (left_in (copy_state run work.copier)) → (journal : List Entry) → KeepTables plan m run journal → (range : Option KeyRange) → IsRangeNow m rows (stored (state_at plan journal)) range → (copier applier : ℕ)
    → ((n : ℕ) → hold_at (state_at plan journal) n ≡ no_hold) → (copier == applier) ≡ false → (applier == copier) ≡ false → 0 < plan.options.chunk_size → 0 < plan.options.dml_batch_size
    → MigrationStands m at rows (limits_of plan) (scene_of plan []) journal (record { copier = copier_from plan found.reach range; copier_session = copier; applier = applier_from plan found.position; applier_session = applier })
