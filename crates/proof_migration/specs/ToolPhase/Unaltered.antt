-- Journals in whose history the ALTER isn't yet.
use Rattle.std.specs.Prelude.{◌≡◌, false, List}
use Rattle.std.specs.List.{list_any}
use Rattle.server_model.specs.declared.entry.Entry.{Entry}
use Rattle.plan_data.specs.PlanData.{PlanData}
use Rattle.tool_program.specs.JournalWords.Histories.{history, is_alter}
use Rattle.tool_program.specs.JournalWords.Serials.{IsSerial}
use Rattle.proof_journals.specs.Plans.{IsPlanRun, IsSerialPlan}
use Rattle.proof_journals.specs.Run.Kept.{IsKept}
use Rattle.proof_journals.specs.Machine.Runnable.{IsRunnable}

-- *Unaltered*: the RENAME of the migrated table wasn't done yet
abbrev pub IsUnaltered : PlanData → List Entry → Type 0
IsUnaltered plan journal = list_any is_alter (history plan journal) ≡ false

-- *Unaltered journals are runs*: in a journal that is kept the tool keeps away from the clients' tables by itself, until the
-- RENAME is done, so that all laws of runs hold of it.
abbrev pub UnalteredJournalsAreRuns : Type 0
UnalteredJournalsAreRuns = (plan : PlanData) (journal : List Entry) → IsRunnable plan → IsSerialPlan plan → IsKept plan journal → IsUnaltered plan journal → IsPlanRun plan journal

-- ... and serial
abbrev pub UnalteredJournalsAreSerial : Type 0
UnalteredJournalsAreSerial = (plan : PlanData) (journal : List Entry) → IsRunnable plan → IsSerialPlan plan → IsKept plan journal → IsUnaltered plan journal → IsSerial plan journal
