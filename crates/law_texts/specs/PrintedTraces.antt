-- *The printed trace is read again*, as the plan and the run that were printed. This project's rule.
use Rattle.std.specs.Prelude.{codes, ◌≡◌, ◌==◌, ◌<◌, ◌≤◌, ◌^◌, ℕ, true, false, List, ◌++◌, length, map, Option, Some, None, Ok}
use Rattle.std.specs.List.{AllByRecursion}
use Rattle.std.specs.Str.{IsUtf8}
use Rattle.base_values.specs.declared.value.Value.{Value}
use Rattle.base_script.specs.declared.actor.Side.{Side}
use Rattle.table_store.specs.Databases.{Database, TableRows}
use Rattle.table_print.specs.Names.{names_line}
use Rattle.server_model.specs.declared.outcome.Cause.{Cause}
use Rattle.server_model.specs.declared.outcome.Cause.TheVariants.{Unfit, Spent, Panic}
use Rattle.server_model.specs.declared.outcome.Task.{Task}
use Rattle.server_model.specs.declared.outcome.Task.TheVariants.{Chunk, Batch}
use Rattle.server_model.specs.declared.outcome.Verdict.{Verdict}
use Rattle.server_model.specs.declared.outcome.Verdict.TheVariants.{Reverted}
use Rattle.plan_data.specs.PlanData.{PlanData}
use Rattle.plan_reader.specs.Plans.{read}
use Rattle.proof_schemas.specs.Printed.Laws.{CanPrintValue}
use Rattle.run_audit.specs.declared.line.LineAnswer.{LineAnswer}
use Rattle.run_audit.specs.declared.line.LineAnswer.TheVariants as answers
use Rattle.run_audit.specs.declared.line.LineAsked.{LineAsked}
use Rattle.run_audit.specs.declared.line.LineAsked.TheVariants.{Cut, Word}
use Rattle.run_audit.specs.declared.line.TraceLine.{TraceLine}
use Rattle.run_audit.specs.declared.trace.Trace.{Trace}
use Rattle.run_audit.specs.Lines.{printed_table}
use Rattle.top_trace.specs.Texts.{journal_text}
use Rattle.top_trace_reader.specs.declared.whole.TheConstants.{TRACE_LIMIT}
use Rattle.top_trace_reader.specs.Traces.{read_trace}
use Rattle.top_trace_reader.specs.Turns.{fits, may_draw}
use Rattle.law_texts.specs.TurnOrders.{IsOf}

-- ---- what can be printed

-- a text without a line feed
abbrev pub IsOneLine : List ℕ → Type 0
IsOneLine text = AllByRecursion (λ byte. (byte == 10) ≡ false) text

-- at least one value, each of which can be printed
abbrev pub CanPrintRow : List Value → Type 0
CanPrintRow row = (0 < length row) × AllByRecursion CanPrintValue row

-- numbers have 64 bits
abbrev pub CanPrintAnswer : LineAnswer → Type 0
CanPrintAnswer (answers.Ok count) = count < 2 ^ 64
CanPrintAnswer (answers.Error number) = number < 2 ^ 64
CanPrintAnswer (answers.Rows rows) = (length rows < 2 ^ 64) × AllByRecursion CanPrintRow rows
CanPrintAnswer (answers.Waits by) = by < 2 ^ 64
CanPrintAnswer (answers.TimedOut waited) = waited < 2 ^ 64
CanPrintAnswer answers.Lost = Unit {0}
CanPrintAnswer answers.LostDone = Unit {0}
CanPrintAnswer answers.LostWaited = Unit {0}
CanPrintAnswer answers.LostRefused = Unit {0}
CanPrintAnswer answers.Other = Unit {0}

-- a session is lost beside a call or a poll, on a side of it
abbrev pub CanHaveSide : LineAsked → Option Side → Type 0
CanHaveSide Cut side = side ≡ None
CanHaveSide Word side = side ≡ None
CanHaveSide asked side = Unit {0}

-- a number is drawn by what was done or refused
abbrev pub CanDraw : LineAnswer → Option ℕ → Type 0
CanDraw answer None = Unit {0}
CanDraw answer (Some number) = (may_draw answer ≡ true) × (number < 2 ^ 64)

-- a turn of a plan with this many clients
pub record CanPrintTurn (clients : ℕ) (line : TraceLine) : Type 0 where
  pub its : IsOf clients line.actor
  pub beside : CanHaveSide line.asked line.side
  pub fitting : fits line.actor line.side line.answer ≡ true
  pub numbers : CanPrintAnswer line.answer
  pub draw : CanDraw line.answer line.drawn

abbrev pub CanPrintTask : Task → Type 0
CanPrintTask (Chunk number) = number < 2 ^ 64
CanPrintTask (Batch position) = position < 2 ^ 64
CanPrintTask task = Unit {0}

abbrev pub CanPrintCause : Cause → Type 0
CanPrintCause (Unfit turn key column number) = (turn < 2 ^ 64) × CanPrintRow key × (number < 2 ^ 16)
CanPrintCause (Spent task turns) = CanPrintTask task × (0 < length turns) × AllByRecursion (λ turn. turn < 2 ^ 64) turns
CanPrintCause (Panic turn) = turn < 2 ^ 64

abbrev pub CanPrintVerdict : Verdict → Type 0
CanPrintVerdict (Reverted cause) = CanPrintCause cause
CanPrintVerdict verdict = Unit {0}

-- names without a line feed, and rows that can be printed
pub record CanPrintTable (table : TableRows) : Type 0 where
  pub name : IsOneLine table.schema.name
  pub columns : AllByRecursion (λ column. IsOneLine column.name) table.schema.columns
  pub rows : AllByRecursion CanPrintRow table.rows

-- a run of the plan, which left these tables
pub record CanPrintTrace (plan : PlanData) (trace : Trace) (left : Database) : Type 0 where
  pub few : length plan.clients < 2 ^ 32
  pub short : length trace.lines < 2 ^ 64
  pub turns : AllByRecursion (CanPrintTurn (length plan.clients)) trace.lines
  pub ended : CanPrintVerdict trace.verdict
  pub printed : trace.tables ≡ map printed_table left
  pub tables : AllByRecursion CanPrintTable left

-- ---- the law

-- the text of a run of the plan that these bytes are, where these tables exist at its end
abbrev pub text_of : List ℕ → Trace → Database → List ℕ
text_of bytes trace exist = bytes ++ codes "\n" ++ journal_text trace (names_line exist)

-- The text of a run is read as the plan and that run, where no name has a line feed, and the text isn't longer than traces may be.
abbrev pub PrintedTracesAreRead : Type 0
PrintedTracesAreRead =
    (bytes : List ℕ) (plan : PlanData) (trace : Trace) (left exist : Database)
    → read bytes ≡ Ok plan → CanPrintTrace plan trace left → AllByRecursion (λ table. IsOneLine table.schema.name) exist
    → IsUtf8 (text_of bytes trace exist) → length (text_of bytes trace exist) ≤ TRACE_LIMIT
    → read_trace (text_of bytes trace exist) ≡ Ok (plan, trace)
