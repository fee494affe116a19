-- Why bytes are no trace: the number and the name of each refusal. This project's rule.
use Rattle.std.specs.Prelude.{codes, ℕ, List, Option, Some, None, Result, Ok, Err}
use Rattle.plan_reader.specs.declared.fault.PlanRefusal.{PlanRefusal}
use Rattle.plan_reader.specs.Refusals.{refusal_code}
use Rattle.top_trace_reader.specs.declared.fault.TraceRefusal.{TraceRefusal}
use Rattle.top_trace_reader.specs.declared.fault.TraceRefusal.TheVariants.{TooLong, NoJournal, Plan, Line}

-- a refusal's number and its name
abbrev pub trace_code : TraceRefusal → ℕ × List ℕ
trace_code TooLong = (59, codes "too_long")
trace_code NoJournal = (61, codes "trace_syntax")
trace_code (Plan refusal) = refusal_code refusal
trace_code (Line number) = (61, codes "trace_syntax")

-- what was found, or that no line is `#journal`
abbrev pub or_no_journal : {A : Type 0} → Option A → Result A TraceRefusal
or_no_journal (Some found) = Ok found
or_no_journal None = Err NoJournal

-- what was read of the plan, or its refusal
abbrev pub of_plan : {A : Type 0} → Result A PlanRefusal → Result A TraceRefusal
of_plan (Ok read) = Ok read
of_plan (Err refusal) = Err (Plan refusal)

-- what was read of the lines, or the number of the first that isn't one of a trace
abbrev pub of_lines : {A : Type 0} → Result A ℕ → Result A TraceRefusal
of_lines (Ok read) = Ok read
of_lines (Err number) = Err (Line number)
