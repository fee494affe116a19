-- *Reading of a trace*: what was read of the lines after `#journal`, line by line, and what may come next. This project's rule.
use Rattle.std.specs.Prelude.{◌==◌, codes, ℕ, ◌+◌, ◌-◌, Bool, true, false, if◌then◌else◌, List, [], ◌∷◌, ◌++◌, length, option_to_list, Option, Some, None, Result, Ok, Err}
use Rattle.std.specs.Option.{option_map}
use Rattle.std.specs.Str.{is_utf8}
use Rattle.base_values.specs.declared.value.Value.{Value}
use Rattle.base_values.specs.SchemaRules.Results.{◌>>=◌}
use Rattle.server_model.specs.declared.outcome.Verdict.{Verdict}
use Rattle.run_audit.specs.declared.line.LineAnswer.{LineAnswer}
use Rattle.run_audit.specs.declared.line.LineAnswer.TheVariants as answers
use Rattle.run_audit.specs.declared.line.TraceLine.{TraceLine}
use Rattle.run_audit.specs.declared.trace.Trace.{Trace}
use Rattle.top_trace_reader.specs.declared.reading.Reading.{Reading}
use Rattle.top_trace_reader.specs.declared.reading.Reading.TheVariants.{Turns, RowsOf, Tables, Named, Whole}
use Rattle.top_trace_reader.specs.declared.reading.OpenTurn.{OpenTurn}
use Rattle.top_trace_reader.specs.declared.reading.LeftTables.{LeftTables}
use Rattle.top_trace_reader.specs.declared.turns.TurnRead.{TurnRead}
use Rattle.top_trace_reader.specs.Lines.{is_names_line, is_table_line, words_of}
use Rattle.top_trace_reader.specs.Literals.{row_in}
use Rattle.top_trace_reader.specs.Turns.{turn_in}
use Rattle.top_trace_reader.specs.Verdicts.{verdict_in}

-- ---- turns

-- the line with the rows that its client read
abbrev pub with_rows : TraceLine → List (List Value) → TraceLine
with_rows line rows = record { actor = line.actor; asked = line.asked; side = line.side; answer = answers.Rows rows; drawn = line.drawn }

-- the turn is read where no row is left, and else its next row comes
abbrev pub after_rows : List TraceLine → TraceLine → List (List Value) → ℕ → Reading
after_rows lines line rows left = if left == 0 then Turns (lines ++ with_rows line rows ∷ []) else RowsOf (record { lines = lines; line = line; rows = rows; left = left })

abbrev pub is_rows : LineAnswer → Bool
is_rows (answers.Rows rows) = true
is_rows answer = false

-- after a turn's own line
abbrev pub after_turn : List TraceLine → TurnRead → Reading
after_turn lines read = if is_rows read.line.answer then after_rows lines read.line [] read.rows else Turns (lines ++ read.line ∷ [])

abbrev pub after_row : OpenTurn → List Value → Reading
after_row turn row = after_rows turn.lines turn.line (turn.rows ++ row ∷ []) (turn.left - 1)

-- ---- the tables that are left

abbrev pub after_verdict : List TraceLine → Verdict → Reading
after_verdict lines verdict = Tables (record { lines = lines; verdict = verdict; tables = []; current = None })

-- the tables with the one that rows may still follow
abbrev pub closed : LeftTables → List (List ℕ)
closed left = left.tables ++ option_to_list left.current

abbrev pub with_line : List ℕ → List ℕ → List ℕ
with_line table line = table ++ (line ++ codes "\n")

abbrev pub after_table : LeftTables → List ℕ → Reading
after_table left line = Tables (record { lines = left.lines; verdict = left.verdict; tables = closed left; current = Some (with_line [] line) })

abbrev pub after_names : LeftTables → Reading
after_names left = Named (record { lines = left.lines; verdict = left.verdict; tables = closed left })

abbrev pub with_row : LeftTables → List ℕ → List ℕ → Reading
with_row left table line = Tables (record { lines = left.lines; verdict = left.verdict; tables = left.tables; current = Some (with_line table line) })

-- rows follow the line of a table
abbrev pub after_table_row : LeftTables → List ℕ → Option Reading
after_table_row left line = option_map (λ table. with_row left table line) left.current

abbrev pub after_left_row : LeftTables → List ℕ → Option (List Value) → Option Reading
after_left_row left line None = None
after_left_row left line (Some row) = after_table_row left line

-- ---- line by line

-- the first that is there
abbrev pub or_else : {A : Type 0} → Option A → Option A → Option A
or_else (Some one) other = Some one
or_else None other = other

-- the next turn, or the verdict
unfoldable pub after_turn_or_verdict : ℕ → List TraceLine → List ℕ → Option Reading
after_turn_or_verdict clients lines line =
    or_else (option_map (after_turn lines) (turn_in clients (length lines + 1) (words_of line))) (option_map (after_verdict lines) (verdict_in line))

-- another table, a row of the last, or the names of all
unfoldable pub after_left : LeftTables → List ℕ → Option Reading
after_left left line =
    if is_table_line line then Some (after_table left line)
    else if is_names_line line then Some (after_names left)
    else after_left_row left line (row_in line)

-- what was read with one line more, where such a line may come
unfoldable pub after_text : ℕ → Reading → List ℕ → Option Reading
after_text clients (Turns lines) line = after_turn_or_verdict clients lines line
after_text clients (RowsOf turn) line = option_map (after_row turn) (row_in line)
after_text clients (Tables left) line = after_left left line
after_text clients (Named trace) line = if length line == 0 then Some (Whole trace) else None
after_text clients (Whole trace) line = None

-- (Bytes that are no UTF-8 are in no line.)
unfoldable pub after_line : ℕ → Reading → List ℕ → Option Reading
after_line clients reading line = if is_utf8 line then after_text clients reading line else None

-- what was read, or the number of the line that isn't one that may come
abbrev pub or_line : ℕ → Option Reading → Result Reading ℕ
or_line number (Some reading) = Ok reading
or_line number None = Err number

-- the trace, where the text is over after its names and a line feed
abbrev pub whole : ℕ → Reading → Result Trace ℕ
whole number (Turns lines) = Err number
whole number (RowsOf turn) = Err number
whole number (Tables left) = Err number
whole number (Named trace) = Err number
whole number (Whole trace) = Ok trace

-- *Reading of a trace*: with the lines from this number on, or the first that isn't one that may come
unfoldable pub read_on : ℕ → ℕ → Reading → List (List ℕ) → Result Trace ℕ
read_on clients number reading [] = whole number reading
read_on clients number reading (line ∷ lines) = do
  reading ← or_line number (after_line clients reading line)
  read_on clients (number + 1) reading lines

-- The run that the lines say, of a plan with this many clients, or the number of the first that isn't one that may come
abbrev pub trace_in : ℕ → List (List ℕ) → Result Trace ℕ
trace_in clients lines = read_on clients 1 (Turns []) lines
