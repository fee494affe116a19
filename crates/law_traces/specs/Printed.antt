-- What holds of the text that is printed of a run of an accepted plan turn by turn. (This project's rule.)
use Rattle.std.specs.Prelude.{◌<◌, ◌^◌, ◌≡◌, ◌≤◌, ℕ, List, length, Ok}
use Rattle.std.specs.List.{AllByRecursion}
use Rattle.std.specs.Str.{IsUtf8}
use Rattle.base_values.specs.declared.gho_schema.schema.Schema.{Schema}
use Rattle.server_model.specs.declared.entry.Entry.{Entry}
use Rattle.server_model.specs.declared.outcome.Cause.{Cause}
use Rattle.server_model.specs.declared.outcome.Cause.TheVariants.{Unfit, Spent, Panic}
use Rattle.server_model.specs.declared.outcome.Verdict.{Verdict}
use Rattle.server_model.specs.declared.outcome.Verdict.TheVariants.{Reverted}
use Rattle.plan_data.specs.PlanData.{PlanData, new_schema}
use Rattle.plan_reader.specs.Plans.{read}
use Rattle.table_store.specs.Databases.{Database}
use Rattle.tool_program.specs.JournalWords.Journals.{state_at}
use Rattle.tool_program.specs.JournalWords.Serials.{tables_left}
use Rattle.tool_program.specs.JournalWords.Sessions.{NumbersSessions}
use Rattle.tool_program.specs.Verdicts.{verdict_of}
use Rattle.tool_finish.specs.WholeJournals.{run_in, verdict_at}
use Rattle.proof_journals.specs.Run.Kept.{IsKept}
use Rattle.proof_audit.specs.Wholes.{HasItsCause, IsWhole}
use Rattle.run_audit.specs.declared.trace.Audit.TheVariants.{Yes}
use Rattle.run_audit.specs.declared.trace.Trace.{Trace}
use Rattle.run_audit.specs.Audits.{audited}
use Rattle.run_audit.specs.Lines.{trace_of}
use Rattle.top_trace.specs.Texts.{trace_text}
use Rattle.top_trace_reader.specs.declared.whole.TheConstants.{TRACE_LIMIT}
use Rattle.top_trace_reader.specs.Traces.{read_trace}
use Rattle.law_texts.specs.PrintedTraces.{CanDraw, CanPrintAnswer, CanPrintRow, CanPrintTask, IsOneLine}

-- the names of a table and of its columns hold no line feed
abbrev pub HasOneLineNames : Schema → Type 0
HasOneLineNames schema = IsOneLine schema.name × AllByRecursion (λ column. IsOneLine column.name) schema.columns

abbrev pub HaveOneLineNames : Database → Type 0
HaveOneLineNames tables = AllByRecursion (λ table. HasOneLineNames table.schema) tables

-- *Plain names*: no name of a table or a column of the plan, or of a column that its ALTER makes, has a line feed
pub record HasPlainNames (plan : PlanData) : Type 0 where
  pub tables : HaveOneLineNames plan.tables
  pub columns : AllByRecursion (λ column. IsOneLine column.name) (new_schema plan).columns

-- the tables at the end of a run, and its trace, of which `trace` prints the text
abbrev pub tables_at : PlanData → List Entry → Database
tables_at plan journal = (state_at plan journal).tables

abbrev pub trace_at : PlanData → List Entry → Trace
trace_at plan journal = trace_of plan journal (verdict_of plan journal) (tables_at plan journal)

abbrev pub text_at : List ℕ → PlanData → List Entry → List ℕ
text_at bytes plan journal = trace_text bytes plan journal (verdict_of plan journal) (tables_at plan journal)

-- the key of a row that doesn't fit can be printed, and the number of a chunk and the position of a batch have 64 bits
abbrev pub HasPlainCause : Cause → Type 0
HasPlainCause (Unfit turn key column number) = CanPrintRow key
HasPlainCause (Spent task turns) = CanPrintTask task
HasPlainCause (Panic turn) = Unit {0}

abbrev pub HasPlainVerdict : Verdict → Type 0
HasPlainVerdict (Reverted cause) = HasPlainCause cause
HasPlainVerdict verdict = Unit {0}

-- *Has plain values*: the numbers of a run have 64 bits, its bytes are bytes, each row has a value, and a number is drawn by what was
-- done or refused.
pub record HasPlainValues (plan : PlanData) (journal : List Entry) : Type 0 where
  pub answers : AllByRecursion (λ line. CanPrintAnswer line.answer × CanDraw line.answer line.drawn) (trace_at plan journal).lines
  pub verdict : HasPlainVerdict (verdict_of plan journal)
  pub rows : AllByRecursion (λ table. AllByRecursion CanPrintRow table.rows) (tables_left plan (tables_at plan journal))

-- *Values are plain* in every run of an accepted plan that numbers its sessions one by one, as each of `replay`, `run` and `trace` does.
abbrev pub ValuesArePlain : Type 0
ValuesArePlain =
    (bytes : List ℕ) (plan : PlanData) (journal : List Entry)
    → read bytes ≡ Ok plan → IsUtf8 plan.table → IsKept plan journal → length journal ≤ plan.options.turn_limit → NumbersSessions journal → HasPlainValues plan journal

-- *Names are one line*: where no name of an accepted plan holds a line feed, no name of a table that exists at the end of a run does.
abbrev pub NamesAreOneLine : Type 0
NamesAreOneLine = (bytes : List ℕ) (plan : PlanData) (journal : List Entry) → read bytes ≡ Ok plan → IsUtf8 plan.table → IsKept plan journal → HasPlainNames plan → HaveOneLineNames (tables_at plan journal)

-- *Printed traces are audited yes*: the text that `trace` prints of such a run of a plan whose names hold no line feed, where it isn't
-- longer than traces may be, is read as the plan and the run's trace, which is audited yes.
abbrev pub PrintedTracesAreAudited : Type 0
PrintedTracesAreAudited =
    (bytes : List ℕ) (plan : PlanData) (journal : List Entry)
    → read bytes ≡ Ok plan → IsUtf8 plan.table → IsKept plan journal → length journal ≤ plan.options.turn_limit → NumbersSessions journal → HasPlainNames plan
    → IsUtf8 (text_at bytes plan journal) → length (text_at bytes plan journal) ≤ TRACE_LIMIT
    → (read_trace (text_at bytes plan journal) ≡ Ok (plan, trace_at plan journal)) × (audited plan (trace_at plan journal) ≡ Yes)

-- the trace of a whole journal, and its text
abbrev pub whole_trace : PlanData → List Entry → Trace
whole_trace plan journal = trace_of plan journal (verdict_at plan journal) (tables_at plan journal)

abbrev pub whole_text : List ℕ → PlanData → List Entry → List ℕ
whole_text bytes plan journal = trace_text bytes plan journal (verdict_at plan journal) (tables_at plan journal)

-- *Printed whole traces are audited yes*: so is the text of a run and of a new tool behind it, on a server that numbered its sessions with 32
-- bits, as the program's does.
abbrev pub WholePrintedTracesAreAudited : Type 0
WholePrintedTracesAreAudited =
    (bytes : List ℕ) (plan : PlanData) (journal : List Entry)
    → read bytes ≡ Ok plan → IsUtf8 plan.table → IsWhole plan journal → HasItsCause plan journal → NumbersSessions (run_in plan journal) → (state_at plan journal).made < 2 ^ 32 → HasPlainNames plan
    → IsUtf8 (whole_text bytes plan journal) → length (whole_text bytes plan journal) ≤ TRACE_LIMIT
    → (read_trace (whole_text bytes plan journal) ≡ Ok (plan, whole_trace plan journal)) × (audited plan (whole_trace plan journal) ≡ Yes)
