-- What the top call promises under each status.
use Rattle.std.specs.Prelude.{◌≡◌, ◌≢◌, ℕ, ◌==◌, ◌≤◌, ◌<◌, ◌^◌, true, false, if◌then◌else◌, List, [], length, Option, Some, None, Result, Ok, Err}
use Rattle.std.specs.Io.KnownBytes.{Appends, Consumes}
use Rattle.std.specs.Str.{IsUtf8}
use Rattle.base_edges.specs.Edges.{Rose}
use Rattle.base_edges.specs.Whole.{ReadsWhole, GivesPart}
use Rattle.tool_program.specs.Orders.{WorkerTurn}
use Rattle.server_model.specs.declared.entry.Entry.{Entry}
use Rattle.server_model.specs.declared.outcome.Cause.{Cause}
use Rattle.server_model.specs.declared.outcome.Verdict.{Verdict}
use Rattle.server_model.specs.declared.outcome.Verdict.TheVariants as verdicts
use Rattle.plan_data.specs.PlanData.{PlanData}
use Rattle.plan_reader.specs.declared.limits.TheConstants.{PLAN_LIMIT}
use Rattle.plan_reader.specs.declared.fault.PlanRefusal.{PlanRefusal}
use Rattle.plan_reader.specs.Plans.{read}
use Rattle.tool_program.specs.JournalWords.Bounds.{bound}
use Rattle.tool_program.specs.JournalWords.Journals.{state_at}
use Rattle.tool_program.specs.Verdicts.{has_ended, verdict_of}
use Rattle.proof_plans.specs.Complete.Laws.{IsSmoothRun}
use Rattle.proof_plans.specs.Complete.Quiet.{IsQuiet, RowsHaveConvertedRows, IsWithinLimits}
use Rattle.run_audit.specs.declared.trace.Audit.{Audit}
use Rattle.run_audit.specs.declared.trace.Audit.TheVariants.{Yes}
use Rattle.run_audit.specs.declared.trace.Trace.{Trace}
use Rattle.run_audit.specs.Audits.{audited}
use Rattle.run_turns.specs.Runs.{is_over}
use Rattle.top_trace_reader.specs.declared.fault.TraceRefusal.{TraceRefusal}
use Rattle.top_trace_reader.specs.declared.whole.TheConstants.{TRACE_LIMIT}
use Rattle.top_trace_reader.specs.Traces.{read_trace}
use Rattle.top_words.specs.Commands.{command}
use Rattle.top_words.specs.declared.command.Command.{Command}
use Rattle.top_words.specs.declared.command.Command.TheVariants as commands
use Rattle.top_endings.specs.declared.command.PlanCommand.{PlanCommand}
use Rattle.top_endings.specs.declared.command.PlanCommand.TheVariants as plans
use Rattle.top_endings.specs.declared.printed.Printed.{Printed}
use Rattle.top_endings.specs.declared.refusals.Refusal.{Refusal}
use Rattle.top_endings.specs.declared.refusals.Refusal.TheVariants as refusals
use Rattle.top_endings.specs.declared.status.Status.{Status}
use Rattle.top_endings.specs.declared.status.Status.TheVariants.{Done, Usage, Refused, Reverted, ReadFault, WriteFault, NoMemory, TurnsSpent, No}
use Rattle.top_endings.specs.Audits.{answer_text}
use Rattle.top_endings.specs.Checks.{IsSchemaText}
use Rattle.top_endings.specs.Endings.{Taking, Giving, asked, reads_source, status_number}
use Rattle.top_endings.specs.Rebuilt.{has_second_unique}
use Rattle.top_endings.specs.Texts.{refused_text, usage_text, read_fault_text}
use Rattle.top_workload.specs.Workloads.{workload}
use Rattle.top_call.specs.Comings.{ComesTo}
use Rattle.top_call.specs.Outcomes.{IsUntaken, Takes, run_text}
use Rattle.top_call.specs.ResumedRuns.{StandsAt, TellsAlterAt, has_ended_at, is_resumed, run_in, verdict_at}

-- *Completes*: where a plan has no client, no command and no loss, each row of its table can be converted, no limit is met and
-- the run has ended, the ALTER was done.
abbrev pub Completes : PlanData → List Entry → Type 0
Completes plan journal = IsQuiet plan → RowsHaveConvertedRows plan → IsWithinLimits plan journal → has_ended plan journal ≡ true → verdict_of plan journal ≡ verdicts.Done

-- *Done where smooth*: where no turn hinders the tool until it knows that the RENAME was done, whoever else is there, a run that
-- has ended is done.
abbrev pub IsDoneWhereSmooth : PlanData → List Entry → Type 0
IsDoneWhereSmooth plan journal = IsSmoothRun plan journal → has_ended plan journal ≡ true → verdict_of plan journal ≡ verdicts.Done

-- *Done with room*: and where the plan allows as many turns as its bound, such a run that is over is done.
abbrev pub IsDoneWithRoom : PlanData → List Entry → Type 0
IsDoneWithRoom plan journal = bound plan ≤ plan.options.turn_limit → IsSmoothRun plan journal → is_over plan journal ≡ true → verdict_of plan journal ≡ verdicts.Done

-- *The headline*, of the turns that a call leaves: the source was read whole, its bytes are an accepted plan, whose table has a text for
-- its name, and the turns are those of a sound replay of the plan, or of a sound run of it by this many workers, as the command says, and
-- those of a new tool behind it where one comes.
pub record Runs (chosen : PlanCommand) (source : Taking) (turns : List WorkerTurn) (journal : List Entry) : Type 0 where
  pub bytes : List ℕ
  pub whole : ReadsWhole PLAN_LIMIT source.before source.after bytes
  pub plan : PlanData
  pub accepted : read bytes ≡ Ok plan
  pub named : IsUtf8 plan.table
  pub takes : Takes chosen plan turns journal
  pub completes : Completes plan (run_in plan journal)
  pub smooth : IsDoneWhereSmooth plan (run_in plan journal)
  pub roomy : IsDoneWithRoom plan (run_in plan journal)

-- the same of the command that the words are
pub record RunsBy (words : List (List ℕ)) (source : Taking) (turns : List WorkerTurn) (journal : List Entry) : Type 0 where
  pub chosen : PlanCommand
  pub command_is : command words ≡ Some (asked chosen)
  pub runs : Runs chosen source turns journal

-- Where the verdict is done or reverted, the run has ended, or the new tool behind it; where it is unfinished, the run hasn't, and took
-- as many turns as the plan allows, which are fewer than the plan's bound; and no new tool came, since the plan has no `resume` or
-- there was no checkpoint.
abbrev pub EndsBy : PlanData → List Entry → Verdict → Type 0
EndsBy plan journal verdicts.Unfinished = (has_ended plan journal ≡ false) × (length journal ≡ plan.options.turn_limit) × (plan.options.turn_limit < bound plan) × (is_resumed plan journal ≡ false)
EndsBy plan journal verdict = has_ended_at plan journal ≡ true

-- The report is given, or what the command prints in its place: turns were taken, the run is over as this verdict says, which is that of the journal and tells whether
-- the ALTER was done; what is given is the text of the run, of the verdict and of the tables at its end, in UTF-8. The server numbered its sessions
-- with 32 bits.
pub record PrintsReport (chosen : PlanCommand) (verdict : Verdict) (source : Taking) (sink : Giving) (turns : List WorkerTurn) (journal : List Entry) : Type 0 where
  pub runs : Runs chosen source turns journal
  pub taken : (length journal == 0) ≡ false
  pub over : EndsBy runs.plan journal verdict
  pub verdict_is : verdict_at runs.plan journal ≡ verdict
  pub tells : has_ended_at runs.plan journal ≡ true → TellsAlterAt runs.plan journal
  pub given : Appends sink.before sink.after (run_text chosen runs.bytes runs.plan journal verdict)
  pub utf8 : IsUtf8 (run_text chosen runs.bytes runs.plan journal verdict)
  pub made : (state_at runs.plan journal).made < 2 ^ 32

-- Status 0 of `check`: the text of the schema that the ALTER of an accepted plan leaves is given.
pub record PrintsSchema (source : Taking) (sink : Giving) (turns : List WorkerTurn) (journal : List Entry) : Type 0 where
  pub bytes : List ℕ
  pub whole : ReadsWhole PLAN_LIMIT source.before source.after bytes
  pub plan : PlanData
  pub accepted : read bytes ≡ Ok plan
  pub text : List ℕ
  pub schema : IsSchemaText plan text
  pub given : Appends sink.before sink.after text
  pub untaken : IsUntaken turns journal

-- Status 0 of `generate`: the plan of the number is given, and nothing is taken.
pub record PrintsWorkload (number : ℕ) (source : Taking) (sink : Giving) (turns : List WorkerTurn) (journal : List Entry) : Type 0 where
  pub untaken : IsUntaken turns journal
  pub takes_none : Consumes source.before source.after []
  pub given : Appends sink.before sink.after (workload number)

-- `audit`: the source was read whole, its bytes are a trace of an accepted plan, and the answer of its audit is given. No turn is
-- taken.
pub record PrintsAnswer (answer : Audit) (source : Taking) (sink : Giving) (turns : List WorkerTurn) (journal : List Entry) : Type 0 where
  pub bytes : List ℕ
  pub whole : ReadsWhole TRACE_LIMIT source.before source.after bytes
  pub plan : PlanData
  pub trace : Trace
  pub accepted : read_trace bytes ≡ Ok (plan, trace)
  pub answers : audited plan trace ≡ answer
  pub given : Appends sink.before sink.after (answer_text answer)
  pub untaken : IsUntaken turns journal

-- Status 0, command by command
abbrev pub PrintsDone : Option Command → Taking → Giving → List WorkerTurn → List Entry → Type 0
PrintsDone None source sink turns journal = ⊥
PrintsDone (Some commands.Check) source sink turns journal = PrintsSchema source sink turns journal
PrintsDone (Some commands.Replay) source sink turns journal = PrintsReport plans.Replay verdicts.Done source sink turns journal
PrintsDone (Some (commands.Run workers)) source sink turns journal = PrintsReport (plans.Run workers) verdicts.Done source sink turns journal
PrintsDone (Some (commands.Generate number)) source sink turns journal = PrintsWorkload number source sink turns journal
PrintsDone (Some commands.Trace) source sink turns journal = PrintsReport plans.Trace verdicts.Done source sink turns journal
PrintsDone (Some commands.Audit) source sink turns journal = PrintsAnswer Yes source sink turns journal
PrintsDone (Some (commands.Rebuild workers)) source sink turns journal = PrintsReport (plans.Rebuild workers) verdicts.Done source sink turns journal

-- Status 1: the words are no command; the usage is given, and nothing is taken.
pub record PrintsUsage (words : List (List ℕ)) (source : Taking) (sink : Giving) (turns : List WorkerTurn) (journal : List Entry) : Type 0 where
  pub faulty : command words ≡ None
  pub untaken : IsUntaken turns journal
  pub takes_none : Consumes source.before source.after []
  pub given : Appends sink.before sink.after usage_text

-- how many bytes a command reads, and one more where there are more
abbrev pub limit_of : Option Command → ℕ
limit_of (Some commands.Audit) = TRACE_LIMIT
limit_of chosen = PLAN_LIMIT

-- a rebuild refuses a plan whose altered schema has a second unique key
abbrev pub refusal_by : Option Command → PlanData → Option Refusal
refusal_by (Some (commands.Rebuild workers)) plan = if has_second_unique plan then Some refusals.SecondUnique else None
refusal_by chosen plan = None

-- of bytes that say this: the plan's first, and last of all the command's own
abbrev pub plan_refusal : Result PlanData PlanRefusal → Option Command → Option Refusal
plan_refusal (Err refusal) chosen = Some (refusals.Plan refusal)
plan_refusal (Ok plan) chosen = refusal_by chosen plan

abbrev pub trace_refusal : Result (PlanData × Trace) TraceRefusal → Option Refusal
trace_refusal (Err refusal) = Some (refusals.Trace refusal)
trace_refusal (Ok read) = None

-- *Refusal* of bytes, by the command of a line: what they are read as, or the command, refuses them
abbrev pub refusal_of : List ℕ → Option Command → Option Refusal
refusal_of bytes (Some commands.Audit) = trace_refusal (read_trace bytes)
refusal_of bytes chosen = plan_refusal (read bytes) chosen

-- Status 2: the first refusal of the bytes is given.
pub record PrintsRefusal (words : List (List ℕ)) (source : Taking) (sink : Giving) (turns : List WorkerTurn) (journal : List Entry) : Type 0 where
  pub reads : reads_source (command words) ≡ true
  pub bytes : List ℕ
  pub whole : ReadsWhole (limit_of (command words)) source.before source.after bytes
  pub refusal : Refusal
  pub refused : refusal_of bytes (command words) ≡ Some refusal
  pub given : Appends sink.before sink.after (refused_text refusal)
  pub untaken : IsUntaken turns journal

-- Status 3: the report, or the trace, says why the migration was reverted, and that cause is in the journal: a row that didn't fit, tries that
-- failed, or panic.
pub record PrintsRevert (words : List (List ℕ)) (source : Taking) (sink : Giving) (turns : List WorkerTurn) (journal : List Entry) : Type 0 where
  pub chosen : PlanCommand
  pub command_is : command words ≡ Some (asked chosen)
  pub cause : Cause
  pub prints : PrintsReport chosen (verdicts.Reverted cause) source sink turns journal
  pub stands : StandsAt prints.runs.plan journal cause

-- Status 4: the source's fault count increased, and that is said.
pub record PrintsReadFault (words : List (List ℕ)) (source : Taking) (sink : Giving) (turns : List WorkerTurn) (journal : List Entry) : Type 0 where
  pub reads : reads_source (command words) ≡ true
  pub untaken : IsUntaken turns journal
  pub rose : Rose source.faults_before source.faults_after
  pub given : Appends sink.before sink.after read_fault_text

-- Status 5: the sink's fault count increased, and what is given is a prefix of what the words and the source come to.
pub record PrintsPrefix (words : List (List ℕ)) (source : Taking) (sink : Giving) (turns : List WorkerTurn) (journal : List Entry) : Type 0 where
  pub printed : Printed
  pub comes : ComesTo (command words) source (Some printed) turns journal
  pub given : GivesPart sink.before sink.after printed.text
  pub rose : Rose sink.faults_before sink.faults_after

-- Status 6: memory ran out, and nothing is given. Where turns were taken, the journal is that of the turns until then.
pub record PrintsNone (words : List (List ℕ)) (source : Taking) (sink : Giving) (turns : List WorkerTurn) (journal : List Entry) : Type 0 where
  pub comes : ComesTo (command words) source None turns journal
  pub given : Appends sink.before sink.after []

-- Status 7: the report, or the trace, is given of a run that hasn't ended, has as many turns as the plan allows, and isn't resumed.
pub record PrintsUnfinished (words : List (List ℕ)) (source : Taking) (sink : Giving) (turns : List WorkerTurn) (journal : List Entry) : Type 0 where
  pub chosen : PlanCommand
  pub command_is : command words ≡ Some (asked chosen)
  pub prints : PrintsReport chosen verdicts.Unfinished source sink turns journal

-- Status 8: the trace breaks a rule, and the first is given.
pub record PrintsNo (words : List (List ℕ)) (source : Taking) (sink : Giving) (turns : List WorkerTurn) (journal : List Entry) : Type 0 where
  pub command_is : command words ≡ Some commands.Audit
  pub answer : Audit
  pub no : answer ≢ Yes
  pub prints : PrintsAnswer answer source sink turns journal

-- what stands after a call that ended so
abbrev pub EndsUnder : Status → List (List ℕ) → Taking → Giving → List WorkerTurn → List Entry → Type 0
EndsUnder Done words source sink turns journal = PrintsDone (command words) source sink turns journal
EndsUnder Usage words source sink turns journal = PrintsUsage words source sink turns journal
EndsUnder Refused words source sink turns journal = PrintsRefusal words source sink turns journal
EndsUnder Reverted words source sink turns journal = PrintsRevert words source sink turns journal
EndsUnder ReadFault words source sink turns journal = PrintsReadFault words source sink turns journal
EndsUnder WriteFault words source sink turns journal = PrintsPrefix words source sink turns journal
EndsUnder NoMemory words source sink turns journal = PrintsNone words source sink turns journal
EndsUnder TurnsSpent words source sink turns journal = PrintsUnfinished words source sink turns journal
EndsUnder No words source sink turns journal = PrintsNo words source sink turns journal

-- *Ends*: the number is that of a status under which this stands.
pub record Ends (words : List (List ℕ)) (source : Taking) (sink : Giving) (turns : List WorkerTurn) (journal : List Entry) (number : ℕ) : Type 0 where
  pub status : Status
  pub number_is : number ≡ status_number status
  pub under : EndsUnder status words source sink turns journal
