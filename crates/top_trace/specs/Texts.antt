-- *Text of a trace*: how a run is printed turn by turn. (This project's rule.)
use Rattle.std.specs.Prelude.{codes, ℕ, ◌+◌, List, [], ◌∷◌, ◌++◌, length, Option, Some, None}
use Rattle.std.specs.Fmt.{decimal}
use Rattle.std.specs.List.{flat_map}
use Rattle.base_script.specs.declared.actor.Side.{Side}
use Rattle.base_script.specs.declared.actor.Side.TheVariants.{Before, After}
use Rattle.table_store.specs.Databases.{Database}
use Rattle.server_model.specs.declared.entry.Entry.{Entry}
use Rattle.server_model.specs.declared.outcome.Verdict.{Verdict}
use Rattle.plan_data.specs.PlanData.{PlanData}
use Rattle.table_print.specs.Names.{names_line}
use Rattle.table_print.specs.Tables.{row_lines}
use Rattle.run_audit.specs.declared.line.LineAsked.{LineAsked}
use Rattle.run_audit.specs.declared.line.LineAsked.TheVariants.{Call, Rename, Poll, Cut, Word}
use Rattle.run_audit.specs.declared.line.LineAnswer.{LineAnswer}
use Rattle.run_audit.specs.declared.line.LineAnswer.TheVariants.{Ok, Error, Rows, Waits, TimedOut, Lost, LostDone, LostWaited, LostRefused, Other}
use Rattle.run_audit.specs.declared.line.TraceLine.{TraceLine}
use Rattle.run_audit.specs.declared.trace.Trace.{Trace}
use Rattle.run_audit.specs.Lines.{trace_of}
use Rattle.top_report.specs.Turns.{actor_word}
use Rattle.top_report.specs.Verdicts.{verdict_line}

-- what was asked, in a word
unfoldable pub asked_text : LineAsked → List ℕ
asked_text Call = codes "call"
asked_text Rename = codes "rename"
asked_text Poll = codes "poll"
asked_text Cut = codes "cut"
asked_text Word = codes "word"

-- where the session was lost in this turn: before the call was done, or after
unfoldable pub side_text : Option Side → List ℕ
side_text None = []
side_text (Some Before) = codes "-before"
side_text (Some After) = codes "-after"

-- what was answered: `ok 1`, `error 1062`, `lost done`
unfoldable pub answer_text : LineAnswer → List ℕ
answer_text (Ok count) = codes "ok " ++ decimal count
answer_text (Error number) = codes "error " ++ decimal number
answer_text (Rows rows) = codes "rows " ++ decimal (length rows)
answer_text (Waits by) = codes "waits " ++ decimal by
answer_text (TimedOut waited) = codes "timeout " ++ decimal waited
answer_text Lost = codes "lost"
answer_text LostDone = codes "lost done"
answer_text LostWaited = codes "lost waited"
answer_text LostRefused = codes "lost refused"
answer_text Other = codes "other"

-- the number that the statement drew, where it drew one
unfoldable pub drawn_text : Option ℕ → List ℕ
drawn_text None = []
drawn_text (Some number) = codes " id " ++ decimal number

-- the rows that a client read, each on a line of its own
unfoldable pub read_rows_text : LineAnswer → List ℕ
read_rows_text (Rows rows) = row_lines rows
read_rows_text answer = []

-- a turn's own line: `12 c1 call ok 1`
unfoldable pub turn_line : ℕ → TraceLine → List ℕ
turn_line turn line =
    decimal turn ++ codes " " ++ actor_word line.actor ++ codes " " ++ asked_text line.asked ++ side_text line.side ++ codes " " ++ answer_text line.answer ++ drawn_text line.drawn ++ codes "\n"

-- the turns from this number on, each with the rows that its client read
unfoldable pub turns_text : ℕ → List TraceLine → List ℕ
turns_text turn [] = []
turns_text turn (line ∷ lines) = turn_line turn line ++ read_rows_text line.answer ++ turns_text (turn + 1) lines

-- the line before the turns
abbrev pub journal_line : List ℕ
journal_line = codes "#journal\n"

-- what comes after the plan and its line feed, with the line that names all tables that exist: the turns, the verdict, and the tables
unfoldable pub journal_text : Trace → List ℕ → List ℕ
journal_text trace names = journal_line ++ turns_text 1 trace.lines ++ verdict_line trace.verdict ++ flat_map (λ table. table) trace.tables ++ names

-- *Text of a trace* of a plan of these bytes: a run with this journal and verdict, which left these tables
unfoldable pub trace_text : List ℕ → PlanData → List Entry → Verdict → Database → List ℕ
trace_text bytes plan journal verdict tables = bytes ++ codes "\n" ++ journal_text (trace_of plan journal verdict tables) (names_line tables)
