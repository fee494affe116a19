-- *Audited*, as facts: what each answer of an audit means. (This project's rule.)
use Rattle.std.specs.Prelude.{◌≡◌, ◌≤◌, ◌<◌, ℕ, nat_eq, true, false, List, [], ◌++◌, is_some, length, map, None, Some}
use Rattle.std.specs.List.{AllByRecursion, list_any}
use Rattle.table_store.specs.Databases.{Database}
use Rattle.server_model.specs.Along.{Along}
use Rattle.plan_data.specs.PlanData.{PlanData}
use Rattle.tool_program.specs.JournalWords.Serials.{Serial}
use Rattle.run_audit.specs.declared.trace.Audit.TheVariants.{Yes, Line, Table, Verdict}
use Rattle.run_audit.specs.declared.trace.Trace.{Trace}
use Rattle.run_audit.specs.Audits.{audited, bad_turns, first_other, is_unfinished, item_of, judged, may_draw, opening_tables, tables_reached, verdict_holds}
use Rattle.run_audit.specs.Lines.{printed_table}
use Rattle.run_audit.specs.Rules.{all_are_over, alters_in, has_altered, keeps_losses, keeps_script}

-- *Audited*: no rule is broken.
pub record IsAudited (plan : PlanData) (trace : Trace) : Type 0 where
  -- each client takes the lines of its script in order, and none after its loss
  pub scripts : Along (λ before line. keeps_script plan before line ≡ true) [] trace.lines
  -- where the run ended within its turns, each client is over
  pub over : is_unfinished trace.verdict ≡ false → length trace.lines ≤ plan.options.turn_limit → all_are_over plan trace.lines 1 plan.clients ≡ true
  -- in the turns that the plan allows, losses strike where it has them, and the operator takes its commands in order
  pub losses : Along (λ before line. length before < plan.options.turn_limit → keeps_losses plan before line ≡ true) [] trace.lines
  -- the ALTER is done once at most
  pub once : Along (λ before line. alters_in before line ≡ true → has_altered before ≡ false) [] trace.lines
  -- each number was drawn by a statement that draws, with its table as it was at that turn
  pub drawn : Along (λ before line. is_some line.drawn ≡ true → may_draw plan before line.actor ≡ true) [] trace.lines
  -- the history of the lines is serial, and leads to these tables
  pub tables : Database
  pub serial : Serial plan (opening_tables plan) (map item_of (judged plan trace.lines)) tables
  -- which are printed, in their order
  pub others : List (List ℕ)
  pub printed : trace.tables ≡ map printed_table tables ++ others
  -- the verdict is that of these lines
  pub verdict : verdict_holds plan trace.lines trace.verdict ≡ true

-- *An audit says yes* exactly where no rule is broken.
pub record SaysYes (plan : PlanData) (trace : Trace) : Type 0 where
  pub only : audited plan trace ≡ Yes → IsAudited plan trace
  pub where_so : IsAudited plan trace → audited plan trace ≡ Yes

abbrev pub AuditsSayYes : Type 0
AuditsSayYes = (plan : PlanData) (trace : Trace) → SaysYes plan trace

-- this turn is one of these, and none of them is before it
pub record IsLeast (turn : ℕ) (turns : List ℕ) : Type 0 where
  pub among : list_any (nat_eq turn) turns ≡ true
  pub first : AllByRecursion (λ other. turn ≤ other) turns

-- *An audit names the first* that is wrong: the least turn that breaks a rule of turns; where none does, the first table that isn't
-- printed in its place; and where all are, the verdict.
pub record NamesFirst (plan : PlanData) (trace : Trace) : Type 0 where
  pub turn : (n : ℕ) → audited plan trace ≡ Line n → IsLeast n (bad_turns plan trace)
  pub named : (n : ℕ) → IsLeast n (bad_turns plan trace) → audited plan trace ≡ Line n
  pub table : (name : List ℕ) → audited plan trace ≡ Table name → (bad_turns plan trace ≡ []) × (first_other trace.tables (tables_reached plan (opening_tables plan) (judged plan trace.lines)) ≡ Some name)
  pub verdict : audited plan trace ≡ Verdict → (bad_turns plan trace ≡ []) × (first_other trace.tables (tables_reached plan (opening_tables plan) (judged plan trace.lines)) ≡ None) × (verdict_holds plan trace.lines trace.verdict ≡ false)

abbrev pub AuditsNameTheFirst : Type 0
AuditsNameTheFirst = (plan : PlanData) (trace : Trace) → NamesFirst plan trace

-- *The lines decide the tables*: two traces of the same lines that are audited yes have the same tables printed, but for what
-- either has after them.
pub record HaveTheSameTables (trace other : Trace) : Type 0 where
  pub tables : Database
  pub one : List (List ℕ)
  pub two : List (List ℕ)
  pub printed : trace.tables ≡ map printed_table tables ++ one
  pub printed_too : other.tables ≡ map printed_table tables ++ two

abbrev pub LinesDecideTables : Type 0
LinesDecideTables = (plan : PlanData) (trace other : Trace) → trace.lines ≡ other.lines → audited plan trace ≡ Yes → audited plan other ≡ Yes → HaveTheSameTables trace other
