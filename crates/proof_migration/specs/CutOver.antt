-- Each turn is a turn of the cut-over, so the RENAME that is done comes at the mark, by the sentry relation.
use Rattle.std.specs.Prelude.{◌≡◌, true, false, List, [], ◌∷◌, ◌++◌}
use Rattle.std.specs.List.{list_any}
use Rattle.server_model.specs.Along.{Along}
use Rattle.base_script.specs.declared.actor.Actor.TheVariants.{Op}
use Rattle.server_model.specs.Entries.{is_client}
use Rattle.server_model.specs.declared.entry.Entry.{Entry}
use Rattle.plan_data.specs.PlanData.{PlanData}
use Rattle.tool_program.specs.JournalWords.Histories.{entry_adds, is_alter}
use Rattle.tool_program.specs.Tools.{is_reverting, moment}
use Rattle.proof_journals.specs.Plans.{IsSerialPlan}
use Rattle.proof_journals.specs.Run.Kept.{IsKept}
use Rattle.proof_journals.specs.Machine.Runnable.{IsRunnable}
use Rattle.proof_journals.specs.Sentry.TurnResults.{IsTurned}
use Rattle.proof_migration.specs.ToolPhase.Unaltered.{IsUnaltered}
use Rattle.proof_migration.specs.Program.Turns.Laws.{IsMark}

-- *Clients' turns are turned*: a client's turn leaves the cut-over what the sentry relation asks.
abbrev pub ClientsAreTurned : Type 0
ClientsAreTurned = (plan : PlanData) (journal : List Entry) (entry : Entry) → is_client entry.actor ≡ true → IsRunnable plan → IsSerialPlan plan → IsKept plan (journal ++ entry ∷ []) → IsUnaltered plan (journal ++ entry ∷ []) → IsTurned plan journal entry

-- *Operators' turns are turned*: so does each of the operator's, a command.
abbrev pub OperatorsAreTurned : Type 0
OperatorsAreTurned = (plan : PlanData) (journal : List Entry) (entry : Entry) → entry.actor ≡ Op → IsRunnable plan → IsSerialPlan plan → IsKept plan (journal ++ entry ∷ []) → IsUnaltered plan (journal ++ entry ∷ []) → IsTurned plan journal entry

-- *Journals are turned*: so is each turn of a journal that is kept, until the RENAME is done.
abbrev pub JournalsAreTurned : Type 0
JournalsAreTurned = (plan : PlanData) (journal : List Entry) → IsRunnable plan → IsSerialPlan plan → IsKept plan journal → IsUnaltered plan journal → Along (IsTurned plan) [] journal

-- *A rename*: the turn after a journal that is kept and unaltered does the RENAME of the migrated table
pub record IsRename (plan : PlanData) (journal : List Entry) (entry : Entry) : Type 0 where
  pub kept : IsKept plan (journal ++ entry ∷ [])
  pub unaltered : IsUnaltered plan journal
  pub alters : list_any is_alter (entry_adds plan journal entry) ≡ true

-- *Renames come at the mark* where nothing is reverted: all is copied and applied, and no batch is open.
abbrev pub RenamesComeAtTheMark : Type 0
RenamesComeAtTheMark = (plan : PlanData) (journal : List Entry) (entry : Entry) → IsRunnable plan → IsSerialPlan plan → IsRename plan journal entry → is_reverting (moment plan journal).tool.reason ≡ false → IsMark plan journal
