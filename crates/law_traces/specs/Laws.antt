-- What holds of the trace of every run of an accepted plan. (This project's rule.)
use Rattle.std.specs.Prelude.{◌≡◌, ◌≤◌, length, List}
use Rattle.server_model.specs.declared.entry.Entry.{Entry}
use Rattle.plan_data.specs.PlanData.{PlanData}
use Rattle.tool_program.specs.JournalWords.Journals.{state_at}
use Rattle.tool_program.specs.Verdicts.{verdict_of}
use Rattle.tool_finish.specs.WholeJournals.{verdict_at}
use Rattle.proof_journals.specs.Run.Kept.{IsKept}
use Rattle.proof_plans.specs.ReadPlans.Laws.{WasRead}
use Rattle.proof_audit.specs.Wholes.{HasItsCause, IsWhole}
use Rattle.run_audit.specs.declared.trace.Audit.TheVariants.{Yes}
use Rattle.run_audit.specs.Audits.{audited}
use Rattle.run_audit.specs.Lines.{trace_of}

-- *Traces are audited yes*: that of each journal that a run of an accepted plan keeps, of no more turns than the plan allows, with
-- its verdict and the tables that it leaves.
abbrev pub TracesAreAudited : Type 0
TracesAreAudited = (plan : PlanData) (journal : List Entry) → WasRead plan → IsKept plan journal → length journal ≤ plan.options.turn_limit → audited plan (trace_of plan journal (verdict_of plan journal) (state_at plan journal).tables) ≡ Yes

-- ... and so is that of each whole journal of it, with the turns of a new tool behind the run's; where the new tool reverted, for a cause that
-- is in the journal.
abbrev pub WholeTracesAreAudited : Type 0
WholeTracesAreAudited = (plan : PlanData) (journal : List Entry) → WasRead plan → IsWhole plan journal → HasItsCause plan journal → audited plan (trace_of plan journal (verdict_at plan journal) (state_at plan journal).tables) ≡ Yes
