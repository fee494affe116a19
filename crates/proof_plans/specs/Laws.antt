-- What holds of every journal that a run of an accepted plan keeps, with nothing asked of the plan but that it was read.
use Rattle.std.specs.Prelude.{◌≡◌, true, false, List, Some}
use Rattle.std.specs.List.{list_any}
use Rattle.table_store.specs.Databases.{TableRows, find_table}
use Rattle.server_model.specs.declared.entry.Entry.{Entry}
use Rattle.server_model.specs.declared.outcome.Cause.{Cause}
use Rattle.server_model.specs.declared.outcome.Verdict.TheVariants.{Reverted}
use Rattle.plan_data.specs.PlanData.{PlanData, Altered, altered_by}
use Rattle.tool_program.specs.JournalWords.Journals.{state_at}
use Rattle.tool_program.specs.JournalWords.Serials.{IsSerial}
use Rattle.tool_program.specs.Failures.{Stands}
use Rattle.tool_program.specs.Online.{IsOnline}
use Rattle.tool_program.specs.Orders.{actors, is_ready}
use Rattle.tool_program.specs.Verdicts.{has_ended, verdict_of}
use Rattle.proof_journals.specs.Ghost.Copies.{IsAltered}
use Rattle.proof_migration.specs.Migration.Planning.{migration_of}
use Rattle.proof_journals.specs.Run.Kept.{IsKept}
use Rattle.proof_migration.specs.CutOver.{IsRename}
use Rattle.proof_plans.specs.ReadPlans.Laws.{WasRead}
use Rattle.proof_plans.specs.Tables.{FindsTable, KeepsOldTable}

-- *Accepted runs are serial*: clients' replies and the tables that are left are those of the ended transactions run one at a
-- time, in the order they ended, with the ALTER applied to the whole table at one instant or not at all.
abbrev pub AcceptedRunsAreSerial : Type 0
AcceptedRunsAreSerial = (plan : PlanData) (journal : List Entry) → WasRead plan → IsKept plan journal → IsSerial plan journal

-- *Accepted renames find the altered table*: where the RENAME is done the new table is what the plan's ALTER makes of the
-- migrated one as it is.
abbrev pub AcceptedRenamesFindTheAltered : Type 0
AcceptedRenamesFindTheAltered =
    (plan : PlanData) (table : TableRows) (new : Altered) (journal : List Entry) (entry : Entry) → WasRead plan → find_table plan.table plan.tables ≡ Some table → altered_by plan table.schema ≡ Some new → IsRename plan journal entry
    → IsAltered (migration_of table.schema new) (state_at plan journal).tables

-- *Accepted runs find the table*: what names the migrated table alone, as each client's statement on it does, is never answered
-- ER_NO_SUCH_TABLE.
abbrev pub AcceptedRunsFindTheTable : Type 0
AcceptedRunsFindTheTable = (plan : PlanData) (journal : List Entry) → WasRead plan → IsKept plan journal → FindsTable plan journal

-- *Accepted runs keep the old table*: after the RENAME what is under the old table's name is the table of just before it.
abbrev pub AcceptedRunsKeepTheOldTable : Type 0
AcceptedRunsKeepTheOldTable = (plan : PlanData) (journal : List Entry) → WasRead plan → IsKept plan journal → KeepsOldTable plan journal

-- *Accepted runs are online*: the clients' table is used while the migration goes on, and changed by two calls alone.
abbrev pub AcceptedRunsAreOnline : Type 0
AcceptedRunsAreOnline = (plan : PlanData) (journal : List Entry) → WasRead plan → IsKept plan journal → IsOnline plan journal

-- *Accepted runs go on*: until a run has ended some actor is ready.
abbrev pub AcceptedRunsGoOn : Type 0
AcceptedRunsGoOn = (plan : PlanData) (journal : List Entry) → WasRead plan → IsKept plan journal → has_ended plan journal ≡ false → list_any (is_ready plan journal) (actors plan) ≡ true

-- *Accepted causes stand*: where all was reverted, the cause that the verdict names is in the journal, whichever it is.
abbrev pub AcceptedCausesStand : Type 0
AcceptedCausesStand = (plan : PlanData) (journal : List Entry) (cause : Cause) → WasRead plan → IsKept plan journal → verdict_of plan journal ≡ Reverted cause → Stands plan journal cause
