-- Whatever is reverted, the RENAME that is done finds the altered table, and kept journals are serial.
use Rattle.std.specs.Prelude.{List}
use Rattle.server_model.specs.declared.entry.Entry.{Entry}
use Rattle.plan_data.specs.PlanData.{PlanData}
use Rattle.tool_program.specs.JournalWords.Journals.{state_at}
use Rattle.tool_program.specs.JournalWords.Serials.{IsSerial}
use Rattle.proof_journals.specs.Plans.{IsSerialPlan}
use Rattle.proof_journals.specs.Ghost.Copies.{IsAltered}
use Rattle.proof_migration.specs.Migration.Planning.{migration_of}
use Rattle.proof_journals.specs.Run.Kept.{IsKept}
use Rattle.proof_migration.specs.ToolPhase.Runnable.{IsAlterable, IsWorded}
use Rattle.proof_migration.specs.CutOver.{IsRename}

-- *Renames find the altered table*: where the RENAME is done, the new table is the altered one, whether or not all is reverted.
abbrev pub RenamesFindTheAltered : Type 0
RenamesFindTheAltered =
    (plan : PlanData) (is : IsAlterable plan) (journal : List Entry) (entry : Entry) → IsWorded plan → IsSerialPlan plan → IsRename plan journal entry → IsAltered (migration_of is.table.schema is.new) (state_at plan journal).tables

-- *Kept journals are serial*: so is each journal of an alterable plan that is kept, whatever is answered, refused, lost or
-- repeated, whatever is reverted, and whatever comes after its RENAME.
abbrev pub KeptJournalsAreSerial : Type 0
KeptJournalsAreSerial = (plan : PlanData) → IsAlterable plan → (journal : List Entry) → IsWorded plan → IsSerialPlan plan → IsKept plan journal → IsSerial plan journal
