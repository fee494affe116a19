-- What the bytes of a trace come to under `audit`. (This project's rule.)
use Rattle.std.specs.Prelude.{ℕ, List, Option, Result, Ok, Err, ◌⊎◌}
use Rattle.base_edges.specs.Whole.{ReadsWhole}
use Rattle.tool_program.specs.Orders.{WorkerTurn}
use Rattle.server_model.specs.declared.entry.Entry.{Entry}
use Rattle.plan_data.specs.PlanData.{PlanData}
use Rattle.run_audit.specs.declared.trace.Trace.{Trace}
use Rattle.run_audit.specs.Audits.{audited}
use Rattle.top_trace_reader.specs.declared.fault.TraceRefusal.{TraceRefusal}
use Rattle.top_trace_reader.specs.declared.whole.TheConstants.{TRACE_LIMIT}
use Rattle.top_trace_reader.specs.Traces.{read_trace}
use Rattle.top_endings.specs.declared.printed.Printed.{Printed}
use Rattle.top_endings.specs.declared.refusals.Refusal.TheVariants as refusals
use Rattle.top_endings.specs.Audits.{IsAnswer}
use Rattle.top_endings.specs.Endings.{Taking, IsReadFault}
use Rattle.top_endings.specs.Texts.{IsRefusal}
use Rattle.top_call.specs.Outcomes.{TakesNone}

-- what is printed of bytes that say this: whether the trace breaks a rule, and the first; or why they are no trace
abbrev pub IsAuditPrinted : Result (PlanData × Trace) TraceRefusal → Printed → Type 0
IsAuditPrinted (Ok read) printed = IsAnswer (audited read.0 read.1) printed
IsAuditPrinted (Err refusal) printed = IsRefusal (refusals.Trace refusal) printed

-- the source was read to its end or one byte past the limit of a trace, no turn was taken, and that is printed of its bytes, or
-- nothing where memory ran out
pub record IsTraceRead (source : Taking) (printed : Option Printed) (turns : List WorkerTurn) (journal : List Entry) : Type 0 where
  pub bytes : List ℕ
  pub whole : ReadsWhole TRACE_LIMIT source.before source.after bytes
  pub comes : TakesNone (IsAuditPrinted (read_trace bytes)) printed turns journal

-- what a source comes to under `audit`: what comes of its bytes; or it is said that the source failed
abbrev pub TellsTrace : Taking → Option Printed → List WorkerTurn → List Entry → Type 0
TellsTrace source printed turns journal = IsTraceRead source printed turns journal ⊎ TakesNone (IsReadFault source) printed turns journal
