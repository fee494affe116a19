-- What holds of the text that `trace` gives where it runs the plan to its end. (This project's rule.)
use Rattle.std.specs.Prelude.{◌≡◌, ◌≤◌, ℕ, List, length, Some, Ok}
use Rattle.std.specs.Io.KnownBytes.{Appends}
use Rattle.tool_program.specs.Orders.{WorkerTurn}
use Rattle.server_model.specs.declared.entry.Entry.{Entry}
use Rattle.server_model.specs.declared.outcome.Verdict.{Verdict}
use Rattle.plan_data.specs.PlanData.{PlanData}
use Rattle.plan_reader.specs.Plans.{read}
use Rattle.tool_program.specs.JournalWords.Journals.{state_at}
use Rattle.run_audit.specs.declared.trace.Audit.TheVariants.{Yes}
use Rattle.run_audit.specs.declared.trace.Trace.{Trace}
use Rattle.run_audit.specs.Audits.{audited}
use Rattle.run_audit.specs.Lines.{trace_of}
use Rattle.top_trace.specs.Texts.{trace_text}
use Rattle.top_trace_reader.specs.declared.whole.TheConstants.{TRACE_LIMIT}
use Rattle.top_trace_reader.specs.Traces.{read_trace}
use Rattle.top_words.specs.Commands.{command}
use Rattle.top_words.specs.declared.command.Command.TheVariants as commands
use Rattle.top_endings.specs.declared.status.Status.{Status}
use Rattle.top_endings.specs.declared.status.Status.TheVariants.{Done, Reverted, TurnsSpent}
use Rattle.top_endings.specs.Endings.{Giving, Taking}
use Rattle.top_call.specs.Promises.{EndsUnder}
use Rattle.law_traces.specs.Printed.{HasPlainNames}

-- the trace of the turns that were taken, and its text
abbrev pub trace_taken : PlanData → List Entry → Verdict → Trace
trace_taken plan journal verdict = trace_of plan journal verdict (state_at plan journal).tables

abbrev pub text_taken : List ℕ → PlanData → List Entry → Verdict → List ℕ
text_taken bytes plan journal verdict = trace_text bytes plan journal verdict (state_at plan journal).tables

-- *An audited trace is given*: the text is that of the turns that were taken of the plan, whose trace is audited yes. It is read as the plan
-- and that trace where no name of the plan has a line feed and it isn't longer than traces may be.
pub record GivesAudited (sink : Giving) (journal : List Entry) : Type 0 where
  pub bytes : List ℕ
  pub plan : PlanData
  pub accepted : read bytes ≡ Ok plan
  pub verdict : Verdict
  pub given : Appends sink.before sink.after (text_taken bytes plan journal verdict)
  pub yes : audited plan (trace_taken plan journal verdict) ≡ Yes
  pub reads : HasPlainNames plan → length (text_taken bytes plan journal verdict) ≤ TRACE_LIMIT → read_trace (text_taken bytes plan journal verdict) ≡ Ok (plan, trace_taken plan journal verdict)

-- statuses 0, 3 and 7, at which the run or the new tool behind it ended, or took all turns that the plan allows
abbrev pub IsReported : Status → Type 0
IsReported Done = Unit {0}
IsReported Reverted = Unit {0}
IsReported TurnsSpent = Unit {0}
IsReported status = ⊥

-- *Given traces are audited yes*: what `trace` gives at those statuses.
abbrev pub GivenTracesAreAudited : Type 0
GivenTracesAreAudited =
    (status : Status) (words : List (List ℕ)) (source : Taking) (sink : Giving) (turns : List WorkerTurn) (journal : List Entry) → command words ≡ Some commands.Trace → IsReported status → EndsUnder status words source sink turns journal → GivesAudited sink journal
