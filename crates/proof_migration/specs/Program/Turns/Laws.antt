-- Over a journal that follows the program the migration goes on, and at the mark the new table is the altered one.
use Rattle.std.specs.Prelude.{◌≡◌, ℕ, true, false, List, [], ◌++◌, drop, Some}
use Rattle.base_values.specs.GhoSchema.ClusteredKey.{clustered_place}
use Rattle.server_model.specs.declared.entry.Entry.{Entry}
use Rattle.plan_data.specs.PlanData.{PlanData}
use Rattle.tool_program.specs.JournalWords.Journals.{state_at}
use Rattle.tool_program.specs.declared.event_applier.applier.ApplyStep.TheVariants.{Reading}
use Rattle.tool_program.specs.EventApplier.Appliers.{events_of}
use Rattle.tool_program.specs.Tools.{Work, Migrating, is_reverting, moment}
use Rattle.proof_journals.specs.Plans.{IsSerialPlan}
use Rattle.proof_journals.specs.Ghost.Rows.Moments.{Row}
use Rattle.proof_journals.specs.Ghost.Rows.Timelines.{IsPlanned, Migration}
use Rattle.proof_journals.specs.Ghost.Copies.{IsAltered}
use Rattle.proof_journals.specs.Ghost.HeldKeys.{Clustered}
use Rattle.proof_migration.specs.Migration.Applier.FoundColumns.{FindsRows}
use Rattle.proof_journals.specs.Run.Kept.{IsKept}
use Rattle.proof_journals.specs.Machine.Runnable.{IsRunnable}
use Rattle.proof_migration.specs.ToolPhase.Unaltered.{IsUnaltered}
use Rattle.proof_migration.specs.Program.Turns.Goes.{Goes, IsOf}

-- *A plan's migration*, and what the ghost relation and its statements rest on
pub record IsMigrationOf (plan : PlanData) (m : Migration) (rows : List Row) : Type 0 where
  pub runs : IsRunnable plan
  pub serial : IsSerialPlan plan
  pub of : IsOf plan m
  pub planned : IsPlanned m rows
  pub finds : FindsRows m
  pub place : ℕ
  pub is_place : clustered_place m.new ≡ Some place

-- the tool's work after a journal, where it goes
pub record GoesSomehow (plan : PlanData) (m : Migration) (at : Clustered m.schema) (rows : List Row) (journal : List Entry) : Type 0 where
  pub work : Work
  pub tool_phase : (moment plan journal).tool.tool_phase ≡ Migrating work
  pub goes : Goes plan m at rows journal work

-- *Followers go on*: from a journal after which the migration goes, over whatever turns follow the program, until something is
-- reverted or the RENAME is done.
abbrev pub FollowersGoOn : Type 0
FollowersGoOn =
    (plan : PlanData) (m : Migration) (at : Clustered m.schema) (rows : List Row) → IsMigrationOf plan m rows → (journal rest : List Entry) → IsKept plan (journal ++ rest) → IsUnaltered plan (journal ++ rest) → is_reverting (moment plan (journal ++ rest)).tool.reason ≡ false → GoesSomehow plan m at rows journal
    → GoesSomehow plan m at rows (journal ++ rest)

-- *The mark*: the range is copied, no batch is open, no event of the table is unread, nothing is reverted and the RENAME isn't done
pub record IsMark (plan : PlanData) (journal : List Entry) : Type 0 where
  pub work : Work
  pub tool_phase : (moment plan journal).tool.tool_phase ≡ Migrating work
  pub going : is_reverting (moment plan journal).tool.reason ≡ false
  pub unaltered : IsUnaltered plan journal
  pub copied : work.copier.is_copied ≡ true
  pub idle : work.applier.step ≡ Reading
  pub applied : events_of plan.table (drop work.applier.position (state_at plan journal).log) ≡ []

-- *Marks are altered*: where the migration goes at the mark, the new table is the altered one.
abbrev pub MarksAreAltered : Type 0
MarksAreAltered = (plan : PlanData) (m : Migration) (at : Clustered m.schema) (rows : List Row) → IsMigrationOf plan m rows → (journal : List Entry) → IsKept plan journal → IsMark plan journal → GoesSomehow plan m at rows journal → IsAltered m (state_at plan journal).tables
