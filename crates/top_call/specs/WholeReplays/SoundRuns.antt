-- *Sound run* of a plan: what holds of a journal in whatever order its turns go. (This project's rule.)
use Rattle.std.specs.Prelude.{◌≡◌, ◌≤◌, ◌<◌, true, false, List, ◌∷◌, ◌++◌, length, Some}
use Rattle.std.specs.List.{list_any}
use Rattle.table_store.specs.Databases.{TableRows, find_table}
use Rattle.server_model.specs.declared.entry.Entry.{Entry}
use Rattle.server_model.specs.declared.outcome.Cause.{Cause}
use Rattle.server_model.specs.declared.outcome.Verdict.TheVariants.{Reverted}
use Rattle.plan_data.specs.PlanData.{PlanData, Altered, altered_by}
use Rattle.tool_program.specs.JournalWords.Bounds.{bound}
use Rattle.tool_program.specs.JournalWords.Draws.{Draws}
use Rattle.tool_program.specs.JournalWords.Journals.{state_at}
use Rattle.tool_program.specs.JournalWords.Serials.{IsSerial}
use Rattle.tool_program.specs.JournalWords.Sessions.{NumbersSessions}
use Rattle.tool_program.specs.Failures.{Stands}
use Rattle.tool_program.specs.Online.{IsOnline}
use Rattle.tool_program.specs.Orders.{actors, may_go}
use Rattle.tool_program.specs.Verdicts.{verdict_of, has_ended}
use Rattle.proof_journals.specs.Ghost.Copies.{IsAltered}
use Rattle.proof_journals.specs.Run.Kept.{IsKept}
use Rattle.proof_migration.specs.Migration.Planning.{migration_of}
use Rattle.proof_migration.specs.CutOver.{IsRename}
use Rattle.proof_order.specs.AppliedRows.{AppliesInserts}
use Rattle.proof_order.specs.ChunkLocks.{CopiesUnderLocks}
use Rattle.proof_order.specs.CutOverOrder.{KeepsOrder}
use Rattle.proof_order.specs.LeastCauses.{IsNoLater}
use Rattle.proof_plans.specs.ReadPlans.Laws.{WasRead}
use Rattle.proof_plans.specs.Tables.{FindsTable, KeepsOldTable}
use Rattle.run_turns.specs.Runs.{Stops}

-- *Finds the altered table*: where the RENAME is done in some turn of the journal, the new table is then what the plan's ALTER
-- makes of the migrated one as it is.
abbrev pub FindsAltered : PlanData → List Entry → Type 0
FindsAltered plan journal =
    (before : List Entry) (entry : Entry) (following : List Entry) (table : TableRows) (new : Altered) → journal ≡ before ++ entry ∷ following → IsRename plan before entry → find_table plan.table plan.tables ≡ Some table → altered_by plan table.schema ≡ Some new
    → IsAltered (migration_of table.schema new) (state_at plan before).tables

-- *Ends in time*: until the run has ended, the journal has fewer turns than the plan's bound
abbrev pub EndsInTime : PlanData → List Entry → Type 0
EndsInTime plan journal = has_ended plan journal ≡ false → length journal < bound plan

-- *Sound run*. Each answer is the plain server's; clients take the lines of their scripts in order, and sessions are lost where
-- the plan says; each turn asks what was given, in its actor's session, and sessions are numbered one by one. There are no more turns
-- than the plan allows, and none
-- is taken of a run that is over; until it has ended, there are fewer than the plan's bound, and some actor may go, whatever replica
-- lags. What clients got and the tables that
-- are left are those of their ended transactions, one at a time, with the ALTER at one instant or not at all. The RENAME finds
-- the altered table; what names the migrated one alone finds it, and the old one is kept as it was. The migrated one is used
-- while the migration goes on. The steps of the cut-over come in their order, rows are copied under locks, and logged inserts
-- are applied as REPLACE. Each number that is drawn from tables of one name is above those drawn before and above every value of
-- the column, over the RENAME too. Where the verdict is a revert, the cause is in the journal, and none that stands there comes
-- before it.
pub record IsSoundRun (plan : PlanData) (journal : List Entry) : Type 0 where
  pub kept : IsKept plan journal
  pub numbered : NumbersSessions journal
  pub bound : length journal ≤ plan.options.turn_limit
  pub stops : Stops plan journal
  pub ends : EndsInTime plan journal
  pub goes : has_ended plan journal ≡ false → list_any (may_go plan journal) (actors plan) ≡ true
  pub serial : IsSerial plan journal
  pub altered : FindsAltered plan journal
  pub found : FindsTable plan journal
  pub old : KeepsOldTable plan journal
  pub online : IsOnline plan journal
  pub order : KeepsOrder plan journal
  pub locks : CopiesUnderLocks plan journal
  pub inserts : AppliesInserts plan journal
  pub draws : Draws plan journal
  pub causes : (cause : Cause) → verdict_of plan journal ≡ Reverted cause → Stands plan journal cause
  pub least : (cause other : Cause) → verdict_of plan journal ≡ Reverted cause → Stands plan journal other → IsNoLater cause other

-- *Kept runs are sound*: each journal of an accepted plan that is kept, numbers its sessions, has no more turns than the plan allows and
-- none after its end.
unfoldable pub KeptRunsAreSound : Type 0
KeptRunsAreSound = (plan : PlanData) (journal : List Entry) → WasRead plan → IsKept plan journal → NumbersSessions journal → length journal ≤ plan.options.turn_limit → Stops plan journal → IsSoundRun plan journal
