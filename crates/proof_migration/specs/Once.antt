-- Whole journals, beyond the RENAME: it is done once at most.
use Rattle.std.specs.Prelude.{◌≡◌, true, List, []}
use Rattle.std.specs.List.{list_any}
use Rattle.server_model.specs.Along.{Along}
use Rattle.server_model.specs.declared.entry.Entry.{Entry}
use Rattle.plan_data.specs.PlanData.{PlanData}
use Rattle.tool_program.specs.JournalWords.Histories.{entry_adds, is_alter}
use Rattle.proof_journals.specs.Plans.{IsSerialPlan}
use Rattle.proof_journals.specs.Run.Kept.{IsKept}
use Rattle.proof_journals.specs.Machine.Runnable.{IsRunnable}
use Rattle.proof_migration.specs.ToolPhase.Unaltered.{IsUnaltered}

-- *Renames come once*: in a journal that is kept, where a turn does the RENAME of the migrated table no turn before it did.
abbrev pub RenamesComeOnce : Type 0
RenamesComeOnce = (plan : PlanData) (journal : List Entry) → IsRunnable plan → IsSerialPlan plan → IsKept plan journal → Along (λ before one. list_any is_alter (entry_adds plan before one) ≡ true → IsUnaltered plan before) [] journal
