-- Every journal that follows the program of an alterable plan: from its opening on, and at the mark.
use Rattle.std.specs.Prelude.{◌≡◌, false, List, Some}
use Rattle.table_store.specs.Databases.{find_table}
use Rattle.server_model.specs.declared.entry.Entry.{Entry}
use Rattle.plan_data.specs.PlanData.{PlanData}
use Rattle.tool_program.specs.JournalWords.Journals.{state_at}
use Rattle.tool_program.specs.Tools.{Migrating, Work, is_reverting, moment}
use Rattle.proof_journals.specs.Plans.{IsSerialPlan}
use Rattle.proof_journals.specs.Ghost.Rows.Moments.{Row}
use Rattle.proof_journals.specs.Ghost.Rows.Timelines.{Migration}
use Rattle.proof_journals.specs.Ghost.Copies.{IsAltered}
use Rattle.proof_journals.specs.Ghost.HeldKeys.{Clustered}
use Rattle.proof_migration.specs.Migration.Planning.{migration_of}
use Rattle.proof_journals.specs.Run.Kept.{IsKept}
use Rattle.proof_migration.specs.ToolPhase.Runnable.{IsAlterable, IsWorded}
use Rattle.proof_migration.specs.ToolPhase.Unaltered.{IsUnaltered}
use Rattle.proof_migration.specs.Program.Turns.Laws.{GoesSomehow, IsMark, IsMigrationOf}

-- *Followers go*: from the opening tables on, over whatever turns follow the program, once the setup is over the migration goes,
-- until something is reverted or the RENAME is done.
abbrev pub FollowersGo : Type 0
FollowersGo =
    (plan : PlanData) (m : Migration) (at : Clustered m.schema) (rows : List Row) → IsMigrationOf plan m rows → find_table m.name plan.tables ≡ Some (record { schema = m.schema; rows = rows }) → (journal : List Entry) (work : Work) → IsKept plan journal → IsUnaltered plan journal
    → is_reverting (moment plan journal).tool.reason ≡ false → (moment plan journal).tool.tool_phase ≡ Migrating work → GoesSomehow plan m at rows journal

-- *Followers alter*: in every journal that follows the program of an alterable plan, whatever is answered, refused, lost or
-- repeated, at the mark the new table is the altered one.
abbrev pub FollowersAlter : Type 0
FollowersAlter = (plan : PlanData) (is : IsAlterable plan) → IsWorded plan → IsSerialPlan plan → (journal : List Entry) → IsKept plan journal → IsMark plan journal → IsAltered (migration_of is.table.schema is.new) (state_at plan journal).tables
