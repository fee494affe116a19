-- *Line of a turn*: what a trace keeps of an entry of the journal; *trace of a run*. (This project's rule.)
use Rattle.std.specs.Prelude.{ℕ, Bool, true, false, List, ◌++◌, map, Option, Some, None}
use Rattle.base_values.specs.declared.value.Value.{Value}
use Rattle.base_script.specs.declared.actor.Side.{Side}
use Rattle.base_script.specs.declared.actor.Side.TheVariants.{After}
use Rattle.table_store.specs.Databases.{TableRows, Database}
use Rattle.server_model.specs.declared.request.Request.TheVariants as requests
use Rattle.server_model.specs.declared.answer.Answer.{Answer}
use Rattle.server_model.specs.declared.answer.Answer.TheVariants as answers
use Rattle.server_model.specs.declared.entry.Asked.{Asked}
use Rattle.server_model.specs.declared.entry.Asked.TheVariants.{Call, Poll, Command, Cut}
use Rattle.server_model.specs.declared.entry.Entry.{Entry}
use Rattle.server_model.specs.declared.outcome.Verdict.{Verdict}
use Rattle.server_model.specs.Entries.{is_client}
use Rattle.plan_data.specs.PlanData.{PlanData}
use Rattle.tool_program.specs.JournalWords.Serials.{tables_left}
use Rattle.table_print.specs.Tables.{row_lines, table_line}
use Rattle.run_audit.specs.declared.line.LineAsked.{LineAsked}
use Rattle.run_audit.specs.declared.line.LineAsked.TheVariants as asks
use Rattle.run_audit.specs.declared.line.LineAnswer.{LineAnswer}
use Rattle.run_audit.specs.declared.line.LineAnswer.TheVariants as line_answers
use Rattle.run_audit.specs.declared.line.TraceLine.{TraceLine}
use Rattle.run_audit.specs.declared.trace.Trace.{Trace}

-- what was asked, in a word
abbrev pub asked_of : Asked → LineAsked
asked_of (Call (requests.Rename pairs)) = asks.Rename
asked_of (Call request) = asks.Call
asked_of Poll = asks.Poll
asked_of (Command word) = asks.Word
asked_of Cut = asks.Cut

-- a line has the rows of clients alone
abbrev pub rows_answer : Bool → List (List Value) → LineAnswer
rows_answer true rows = line_answers.Rows rows
rows_answer false rows = line_answers.Other

-- an answer that was heard
abbrev pub heard_answer : Bool → Answer → LineAnswer
heard_answer client (answers.Ok count) = line_answers.Ok count
heard_answer client (answers.Refused number column) = line_answers.Error number
heard_answer client (answers.Rows rows) = rows_answer client rows
heard_answer client (answers.Waits by) = line_answers.Waits by
heard_answer client (answers.TimedOut waited) = line_answers.TimedOut waited
heard_answer client answers.Lost = line_answers.Lost
heard_answer client answer = line_answers.Other

-- an answer that was missed
abbrev pub missed_answer : Option Answer → LineAnswer
missed_answer (Some (answers.Waits by)) = line_answers.LostWaited
missed_answer (Some (answers.Refused number column)) = line_answers.LostRefused
missed_answer (Some (answers.TimedOut waited)) = line_answers.LostRefused
missed_answer missed = line_answers.LostDone

abbrev pub line_answer : Bool → Option Side → Answer → Option Answer → LineAnswer
line_answer client (Some After) answer missed = missed_answer missed
line_answer client side answer missed = heard_answer client answer

-- the number that a line shows: none of a call that was refused and then lost
abbrev pub drawn_shown : Option ℕ → LineAnswer → Option ℕ
drawn_shown None said = None
drawn_shown (Some number) line_answers.LostRefused = None
drawn_shown (Some number) said = Some number

-- *Line of a turn*
abbrev pub line_of : Entry → TraceLine
line_of entry =
    record {
      actor = entry.actor;
      asked = asked_of entry.asked;
      side = entry.side;
      answer = line_answer (is_client entry.actor) entry.side entry.answer entry.missed;
      drawn = drawn_shown entry.draw (line_answer (is_client entry.actor) entry.side entry.answer entry.missed);
    }

abbrev pub lines_of : List Entry → List TraceLine
lines_of journal = map line_of journal

-- a table as it is printed, with all its rows
abbrev pub printed_table : TableRows → List ℕ
printed_table table = table_line table.schema ++ row_lines table.rows

-- *Trace of a run* with this journal and verdict, which left these tables
unfoldable pub trace_of : PlanData → List Entry → Verdict → Database → Trace
trace_of plan journal verdict tables = record { lines = lines_of journal; verdict = verdict; tables = map printed_table (tables_left plan tables) }
