-- *Printed orders replay*: what the replay of a plan with an order that a report printed has to do with the run that the report is
-- of. (This project's rule.)
use Rattle.std.specs.Prelude.{◌≡◌, true, List}
use Rattle.table_store.specs.Databases.{Database}
use Rattle.server_model.specs.declared.entry.Entry.{Entry}
use Rattle.server_model.specs.declared.outcome.Verdict.{Verdict}
use Rattle.plan_data.specs.PlanData.{PlanData, turns_in}
use Rattle.plan_data.specs.declared.runs.ActorRun.{ActorRun}
use Rattle.tool_program.specs.JournalWords.Journals.{state_at}
use Rattle.tool_program.specs.JournalWords.Sessions.{NumbersSessions}
use Rattle.tool_program.specs.Orders.{IsReplay}
use Rattle.tool_program.specs.Verdicts.{verdict_of}
use Rattle.proof_journals.specs.Run.Kept.{IsKept}
use Rattle.proof_feeds.specs.Laws.{TurnsMayGo}
use Rattle.run_turns.specs.Runs.{is_over, Stops}
use Rattle.top_report.specs.Reports.{report}
use Rattle.top_report.specs.Turns.{turns_taken}
use Rattle.top_call.specs.ResumedRuns.{is_resumed}

-- the plan with this order of turns in place of its own
abbrev pub ordered : PlanData → List ActorRun → PlanData
ordered plan runs = record plan { turns = runs }

-- *Is replayed*: the journal is a replay of the plan with this order. Under it, too, the run is over when it was, with its verdict, its
-- tables and its report; and a new tool goes on behind it if one did. What a report prints of the order of such a run and the new tool's
-- turns is no order of this kind: a kept journal has none of them.
pub record IsReplayed (plan : PlanData) (runs : List ActorRun) (journal : List Entry) : Type 0 where
  pub replay : IsReplay (ordered plan runs) journal
  pub over_is : is_over (ordered plan runs) journal ≡ is_over plan journal
  pub stops : Stops plan journal → Stops (ordered plan runs) journal
  pub resumed_is : is_resumed (ordered plan runs) journal ≡ is_resumed plan journal
  pub verdict_is : verdict_of (ordered plan runs) journal ≡ verdict_of plan journal
  pub tables_are : (state_at (ordered plan runs) journal).tables ≡ (state_at plan journal).tables
  pub report_is : (verdict : Verdict) (tables : Database) → report (ordered plan runs) journal verdict tables ≡ report plan journal verdict tables

-- *Printed orders replay*: where sessions are numbered one by one, and no turn is of an actor that a replica holds back, as in each
-- replay and each run by workers, a journal that is kept is replayed in an order that has its turns,
-- losses between calls aside, as the order that its report prints has.
abbrev pub PrintedOrdersReplay : Type 0
PrintedOrdersReplay = (plan : PlanData) (journal : List Entry) (runs : List ActorRun) → IsKept plan journal → NumbersSessions journal → TurnsMayGo plan journal → turns_in runs ≡ turns_taken journal → IsReplayed plan runs journal

-- *And so only*: where the run is over, each replay of the plan with that order that goes on until it is over is its journal.
abbrev pub PrintedOrdersReplayOnly : Type 0
PrintedOrdersReplayOnly =
    (plan : PlanData) (journal : List Entry) (runs : List ActorRun) → IsKept plan journal → NumbersSessions journal → TurnsMayGo plan journal → turns_in runs ≡ turns_taken journal → Stops plan journal → is_over plan journal ≡ true
    → (other : List Entry) → IsReplay (ordered plan runs) other → Stops (ordered plan runs) other → is_over (ordered plan runs) other ≡ true → other ≡ journal
