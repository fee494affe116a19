-- What comes of a plan's bytes: the turns that are taken, what is printed, and the status that it has where it is printed
-- whole. (This project's rule.)
use Rattle.std.specs.Prelude.{◌≡◌, ◌<◌, ◌^◌, Bool, true, false, ℕ, List, [], take, drop, map, Option, IfSome, Result, Ok, Err}
use Rattle.server_model.specs.declared.entry.Entry.{Entry}
use Rattle.server_model.specs.declared.outcome.Verdict.{Verdict}
use Rattle.server_model.specs.declared.outcome.Verdict.TheVariants as verdicts
use Rattle.plan_data.specs.PlanData.{PlanData}
use Rattle.plan_reader.specs.declared.fault.PlanRefusal.{PlanRefusal}
use Rattle.tool_program.specs.JournalWords.Journals.{state_at}
use Rattle.tool_program.specs.Orders.{WorkerTurn}
use Rattle.proof_plans.specs.ReadPlans.Laws.{WasRead}
use Rattle.top_report.specs.Reports.{report}
use Rattle.top_trace.specs.Texts.{trace_text}
use Rattle.top_endings.specs.declared.command.PlanCommand.{PlanCommand}
use Rattle.top_endings.specs.declared.command.PlanCommand.TheVariants.{Check, Replay, Run, Trace, Rebuild}
use Rattle.top_endings.specs.declared.printed.Printed.{Printed}
use Rattle.top_endings.specs.declared.status.Status.{Status}
use Rattle.top_endings.specs.declared.status.Status.TheVariants as statuses
use Rattle.top_endings.specs.Checks.{IsSchema}
use Rattle.top_endings.specs.Rebuilt.{has_second_unique}
use Rattle.top_endings.specs.Texts.{IsRefusal}
use Rattle.top_endings.specs.declared.refusals.Refusal.TheVariants as refusals
use Rattle.top_call.specs.WholeReplays.Replays.{IsSoundReplay}
use Rattle.top_call.specs.PlanWorks.Works.{IsSoundRunByWorkers}
use Rattle.top_call.specs.Rebuilds.{text_at_mark}
use Rattle.top_call.specs.ResumedRuns.{Resumes, finish_in, is_over_at, run_in, verdict_at}

-- the status of a report
abbrev pub status_of : Verdict → Status
status_of verdicts.Done = statuses.Done
status_of (verdicts.Reverted cause) = statuses.Reverted
status_of verdicts.Unfinished = statuses.TurnsSpent

-- whose turns a replay's journal has, or a new tool's: all are of worker 0
abbrev pub turns_of : List Entry → List WorkerTurn
turns_of journal = map (λ entry. record { worker = 0; actor = entry.actor }) journal

-- the turns of a sound replay, and those of a new tool behind it where one comes
pub record IsReplayTaken (plan : PlanData) (turns : List WorkerTurn) (journal : List Entry) : Type 0 where
  pub run : IsSoundReplay plan (run_in plan journal)
  pub resumes : Resumes plan journal
  pub turns_are : turns ≡ turns_of journal

-- the turns of a sound run by this many workers, and those of a new tool behind it where one comes
pub record IsRunTaken (workers : ℕ) (plan : PlanData) (turns : List WorkerTurn) (journal : List Entry) : Type 0 where
  pub run : IsSoundRunByWorkers plan (run_in plan journal) (take plan.options.turn_limit turns) workers
  pub resumes : Resumes plan journal
  pub turns_are : drop plan.options.turn_limit turns ≡ turns_of (finish_in plan journal)

-- *Takes*: what holds of the turns that a command takes of a plan: they are those of a sound replay, or of a sound run by this
-- many workers, and those of a new tool behind it where one comes; `check` takes none, and `rebuild` none of a plan whose altered
-- schema has a second unique key
abbrev pub Takes : PlanCommand → PlanData → List WorkerTurn → List Entry → Type 0
Takes Check plan turns journal = ⊥
Takes Replay plan turns journal = IsReplayTaken plan turns journal
Takes (Run workers) plan turns journal = IsRunTaken workers plan turns journal
Takes Trace plan turns journal = IsReplayTaken plan turns journal
Takes (Rebuild workers) plan turns journal = IsReplayTaken plan turns journal × (has_second_unique plan ≡ false)

-- no turn was taken
pub record IsUntaken (turns : List WorkerTurn) (journal : List Entry) : Type 0 where
  pub no_turns : turns ≡ []
  pub no_journal : journal ≡ []

-- no turn was taken, and this is printed, or nothing where memory ran out
pub record TakesNone (Shows : Printed → Type 0) (printed : Option Printed) (turns : List WorkerTurn) (journal : List Entry) : Type 0 where
  pub untaken : IsUntaken turns journal
  pub shows : IfSome printed Shows

-- the report of a run with a verdict
abbrev pub report_at : PlanData → List Entry → Verdict → List ℕ
report_at plan journal verdict = report plan journal verdict (state_at plan journal).tables

-- the trace of such a run of the plan of these bytes
abbrev pub trace_at : List ℕ → PlanData → List Entry → Verdict → List ℕ
trace_at bytes plan journal verdict = trace_text bytes plan journal verdict (state_at plan journal).tables

-- the rebuild of such a run: where the RENAME was done, the table right after it; else the report
abbrev pub rebuild_at : PlanData → List Entry → Verdict → List ℕ
rebuild_at plan journal verdicts.Done = text_at_mark plan journal
rebuild_at plan journal verdict = report_at plan journal verdict

-- *Text of a run*: what a command prints of a run, with this verdict, of the plan of these bytes: its report, or what the command
-- has in its place
abbrev pub run_text : PlanCommand → List ℕ → PlanData → List Entry → Verdict → List ℕ
run_text Trace bytes plan journal = trace_at bytes plan journal
run_text (Rebuild workers) bytes plan journal = rebuild_at plan journal
run_text chosen bytes plan journal = report_at plan journal

-- the text of a run that has ended, or has as many turns as the plan allows; where it is resumed, the new tool is over too; the server
-- numbered its sessions with 32 bits
pub record IsRunPrinted (text : Verdict → List ℕ) (plan : PlanData) (journal : List Entry) (printed : Printed) : Type 0 where
  pub over : is_over_at plan journal ≡ true
  pub status_is : printed.status ≡ status_of (verdict_at plan journal)
  pub text_is : printed.text ≡ text (verdict_at plan journal)
  pub made : (state_at plan journal).made < 2 ^ 32

-- These are the turns of a sound replay of the plan, or of a sound run of it by this many workers, and those of a new tool behind it
-- where one comes. Its text is printed, and then it is over; or nothing is where memory ran out, and then the turns are those that were taken until then.
pub record IsTaken (chosen : PlanCommand) (plan : PlanData) (text : Verdict → List ℕ) (printed : Option Printed) (turns : List WorkerTurn) (journal : List Entry) : Type 0 where
  pub was_read : WasRead plan
  pub takes : Takes chosen plan turns journal
  pub reports : IfSome printed (IsRunPrinted text plan journal)

-- what comes of a plan under `rebuild`, whose altered schema has a second unique key, or hasn't
abbrev pub RebuildComes : Bool → ℕ → List ℕ → PlanData → Option Printed → List WorkerTurn → List Entry → Type 0
RebuildComes true workers bytes plan printed turns journal = TakesNone (IsRefusal refusals.SecondUnique) printed turns journal
RebuildComes false workers bytes plan printed turns journal = IsTaken (Rebuild workers) plan (run_text (Rebuild workers) bytes plan journal) printed turns journal

-- What comes of bytes that say this under a command: the plan's altered schema, or its replay or run, or the refusal.
abbrev pub Comes : PlanCommand → List ℕ → Result PlanData PlanRefusal → Option Printed → List WorkerTurn → List Entry → Type 0
Comes Check bytes (Ok plan) printed turns journal = TakesNone (IsSchema plan) printed turns journal
Comes Replay bytes (Ok plan) printed turns journal = IsTaken Replay plan (run_text Replay bytes plan journal) printed turns journal
Comes (Run workers) bytes (Ok plan) printed turns journal = IsTaken (Run workers) plan (run_text (Run workers) bytes plan journal) printed turns journal
Comes Trace bytes (Ok plan) printed turns journal = IsTaken Trace plan (run_text Trace bytes plan journal) printed turns journal
Comes (Rebuild workers) bytes (Ok plan) printed turns journal = RebuildComes (has_second_unique plan) workers bytes plan printed turns journal
Comes command bytes (Err refusal) printed turns journal = TakesNone (IsRefusal (refusals.Plan refusal)) printed turns journal
