-- Journals in which the RENAME is done once at most, and finds the altered table.
use Rattle.std.specs.Prelude.{◌≡◌, true, List, []}
use Rattle.std.specs.List.{list_any}
use Rattle.server_model.specs.Along.{Along}
use Rattle.server_model.specs.declared.entry.Entry.{Entry}
use Rattle.plan_data.specs.PlanData.{PlanData}
use Rattle.tool_program.specs.JournalWords.Histories.{entry_adds, is_alter}
use Rattle.tool_program.specs.JournalWords.Journals.{state_at}
use Rattle.tool_program.specs.JournalWords.Serials.{IsSerial}
use Rattle.proof_journals.specs.Plans.{IsPlanRun, IsSerialPlan}
use Rattle.proof_journals.specs.Ghost.Copies.{IsAltered}
use Rattle.proof_migration.specs.Migration.Planning.{migration_of}
use Rattle.proof_journals.specs.Run.Kept.{IsKept}
use Rattle.proof_migration.specs.ToolPhase.Runnable.{IsAlterable, IsWorded}
use Rattle.proof_migration.specs.ToolPhase.Unaltered.{IsUnaltered}

-- *Marked*: each turn in which the RENAME of the migrated table is done is the first one, and finds the altered table
abbrev pub IsMarkedAt : (plan : PlanData) → IsAlterable plan → List Entry → Entry → Type 0
IsMarkedAt plan is before entry = list_any is_alter (entry_adds plan before entry) ≡ true → IsUnaltered plan before × IsAltered (migration_of is.table.schema is.new) (state_at plan before).tables

abbrev pub IsMarked : (plan : PlanData) → IsAlterable plan → List Entry → Type 0
IsMarked plan is journal = Along (IsMarkedAt plan is) [] journal

-- *Marked journals are runs*: a journal that is kept and marked is a run of its plan, since the RENAME that is done makes the migrated
-- table the altered one.
abbrev pub MarkedJournalsAreRuns : Type 0
MarkedJournalsAreRuns = (plan : PlanData) (is : IsAlterable plan) → IsWorded plan → IsSerialPlan plan → (journal : List Entry) → IsKept plan journal → IsMarked plan is journal → IsPlanRun plan journal

-- ... and serial, with one ALTER at most
abbrev pub MarkedJournalsAreSerial : Type 0
MarkedJournalsAreSerial = (plan : PlanData) (is : IsAlterable plan) → IsWorded plan → IsSerialPlan plan → (journal : List Entry) → IsKept plan journal → IsMarked plan is journal → IsSerial plan journal
