-- The texts that the program prints where it prints neither a report nor a schema. This project's rule.
use Rattle.std.specs.Prelude.{◌≡◌, codes, ℕ, List, [], ◌++◌}
use Rattle.std.specs.Fmt.{decimal}
use Rattle.plan_reader.specs.declared.fault.Place.{Place}
use Rattle.plan_reader.specs.declared.fault.Place.TheVariants.{Nowhere, Table, Row, Client, Operator, Fault, TurnWord}
use Rattle.plan_reader.specs.declared.fault.PlanRefusal.{PlanRefusal}
use Rattle.plan_reader.specs.Refusals.{refusal_code, refusal_place}
use Rattle.top_trace_reader.specs.declared.fault.TraceRefusal.{TraceRefusal}
use Rattle.top_trace_reader.specs.declared.fault.TraceRefusal.TheVariants as traces
use Rattle.top_trace_reader.specs.Refusals.{trace_code}
use Rattle.top_endings.specs.declared.printed.Printed.{Printed}
use Rattle.top_endings.specs.declared.refusals.Refusal.{Refusal}
use Rattle.top_endings.specs.declared.refusals.Refusal.TheVariants.{Plan, Trace, SecondUnique}
use Rattle.top_endings.specs.declared.status.Status.TheVariants as statuses

-- where a refusal is: ` table 1 row 5`
unfoldable pub place_text : Place → List ℕ
place_text Nowhere = []
place_text (Table table) = codes " table " ++ decimal table
place_text (Row table row) = codes " table " ++ decimal table ++ codes " row " ++ decimal row
place_text (Client client line) = codes " client " ++ decimal client ++ codes " line " ++ decimal line
place_text (Operator line) = codes " operator line " ++ decimal line
place_text (Fault fault) = codes " fault " ++ decimal fault
place_text (TurnWord word) = codes " turn word " ++ decimal word

-- the number, name and place of a refusal of the plan: `refused 14 no_clustered_key table 1`
unfoldable pub plan_refused_text : PlanRefusal → List ℕ
plan_refused_text refusal = codes "refused " ++ decimal (refusal_code refusal).0 ++ codes " " ++ (refusal_code refusal).1 ++ place_text (refusal_place refusal) ++ codes "\n"

-- where a refusal of a trace is: in its plan, or in a line after `#journal`
unfoldable pub trace_place_text : TraceRefusal → List ℕ
trace_place_text traces.TooLong = []
trace_place_text traces.NoJournal = []
trace_place_text (traces.Plan refusal) = place_text (refusal_place refusal)
trace_place_text (traces.Line number) = codes " line " ++ decimal number

-- the number, name and place of a refusal of a trace: `refused 61 trace_syntax line 12`
unfoldable pub trace_refused_text : TraceRefusal → List ℕ
trace_refused_text refusal = codes "refused " ++ decimal (trace_code refusal).0 ++ codes " " ++ (trace_code refusal).1 ++ trace_place_text refusal ++ codes "\n"

-- a refusal's number, name and place
abbrev pub refused_text : Refusal → List ℕ
refused_text (Plan refusal) = plan_refused_text refusal
refused_text (Trace refusal) = trace_refused_text refusal
refused_text SecondUnique = codes "refused 62 second_unique\n"

-- the refusal of bytes, printed
pub record IsRefusal (refusal : Refusal) (printed : Printed) : Type 0 where
  pub status_is : printed.status ≡ statuses.Refused
  pub text_is : printed.text ≡ refused_text refusal

-- what faulty words get
abbrev pub usage_text : List ℕ
usage_text = codes "usage: check | replay | run [--workers N] | generate N | trace | audit | rebuild [--workers N]\n"

-- what is printed where the source failed
abbrev pub read_fault_text : List ℕ
read_fault_text = codes "read fault\n"
