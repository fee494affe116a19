-- *Read trace*: the plan and the run that a text says, or why it is refused. This project's rule.
use Rattle.std.specs.Prelude.{ℕ, nat_lt, if◌then◌else◌, List, length, Result, Ok, Err}
use Rattle.base_values.specs.SchemaRules.Results.{◌>>=◌}
use Rattle.plan_data.specs.PlanData.{PlanData}
use Rattle.plan_reader.specs.Plans.{read}
use Rattle.run_audit.specs.declared.trace.Trace.{Trace}
use Rattle.top_trace_reader.specs.declared.fault.TraceRefusal.{TraceRefusal}
use Rattle.top_trace_reader.specs.declared.fault.TraceRefusal.TheVariants.{TooLong}
use Rattle.top_trace_reader.specs.declared.whole.TheConstants.{TRACE_LIMIT}
use Rattle.top_trace_reader.specs.Lines.{TraceParts, lines_of, parts_of}
use Rattle.top_trace_reader.specs.Readings.{trace_in}
use Rattle.top_trace_reader.specs.Refusals.{of_lines, of_plan, or_no_journal}

-- the plan is refused first
unfoldable pub read_parts : TraceParts → Result (PlanData × Trace) TraceRefusal
read_parts parts = do
  plan ← of_plan (read parts.plan)
  trace ← of_lines (trace_in (length plan.clients) parts.lines)
  Ok (plan, trace)

-- *Read trace*: the plan and the trace of the bytes, or the first refusal: a byte past the limit, that no line is `#journal`, the
-- plan's own, and then the first line after the last `#journal` that isn't one of a trace.
unfoldable pub read_trace : List ℕ → Result (PlanData × Trace) TraceRefusal
read_trace bytes = if nat_lt TRACE_LIMIT (length bytes) then Err TooLong else (or_no_journal (parts_of (lines_of bytes)) >>= read_parts)
