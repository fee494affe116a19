-- The text of a run, line by line, is read as that run.
use Rattle.std.proofs.Common.{◌≡◌, ◌∙◌, ℕ, ◌+◌, ◌-◌, ◌<◌, ◌≤◌, ◌^◌, ◌==◌, true, false, nat_lt, List, [], ◌∷◌, ◌++◌, length, map, Option, Some, None, Ok, refl, sym, ap, subst, codes, arith, append-nil, append_assoc, length-append}
use Rattle.std.specs.List.{AllByRecursion, flat_map}
use Rattle.std.specs.Option.{option_and_then, option_map}
use Rattle.std.specs.Str.{IsUtf8, is_utf8}
use Rattle.std.proofs.lemmas.Bool.Decides.{nat_tests}
use Rattle.std.proofs.lemmas.List.Splits.{join_with_byte-slice_split}
use Rattle.std.proofs.lemmas.Str.{IsUtf8-nil, is_utf8-from_IsUtf8}
use Rattle.base_values.specs.declared.value.Value.{Value}
use Rattle.base_values.specs.Literals.{printed_row}
use Rattle.base_values.specs.SchemaRules.Results.{◌>>=◌}
use Rattle.base_script.specs.declared.actor.Actor.{Actor}
use Rattle.base_script.specs.declared.actor.Side.{Side}
use Rattle.table_store.specs.Databases.{Database}
use Rattle.table_print.specs.Names.{names_line}
use Rattle.plan_data.specs.PlanData.{PlanData}
use Rattle.plan_reader.specs.Plans.{read}
use Rattle.server_model.specs.declared.outcome.Verdict.{Verdict}
use Rattle.run_audit.specs.declared.line.LineAnswer.{LineAnswer}
use Rattle.run_audit.specs.declared.line.LineAnswer.TheVariants as answers
use Rattle.run_audit.specs.declared.line.LineAsked.{LineAsked}
use Rattle.run_audit.specs.declared.line.TraceLine.{TraceLine}
use Rattle.run_audit.specs.declared.trace.Trace.{Trace}
use Rattle.top_report.specs.Verdicts.{verdict_line}
use Rattle.top_trace.specs.Texts.{journal_line, journal_text, read_rows_text, turn_line, turns_text}
use Rattle.top_trace_reader.specs.declared.reading.LeftTables.{LeftTables}
use Rattle.top_trace_reader.specs.declared.reading.Reading.{Reading}
use Rattle.top_trace_reader.specs.declared.reading.Reading.TheVariants.{Turns, RowsOf, Tables, Named, Whole}
use Rattle.top_trace_reader.specs.declared.turns.TurnRead.{TurnRead}
use Rattle.top_trace_reader.specs.declared.whole.TheConstants.{TRACE_LIMIT}
use Rattle.top_trace_reader.specs.Lines.{TraceParts, is_journal, lines_of, parts_of}
use Rattle.top_trace_reader.specs.Readings.{after_names, after_row, after_rows, after_text, after_turn, after_turn_or_verdict, after_verdict, or_else, trace_in, with_rows}
use Rattle.top_trace_reader.specs.Refusals.{or_no_journal}
use Rattle.top_trace_reader.specs.Traces.{read_parts, read_trace}
use Rattle.top_trace_reader.specs.Verdicts.{verdict_in}
use Rattle.law_texts.specs.PrintedTraces.{CanPrintAnswer, CanPrintRow, CanPrintTable, CanPrintTrace, CanPrintTurn, CanPrintVerdict, IsOneLine, PrintedTracesAreRead, text_of}
use Rattle.law_texts.proofs.PrintedTraces.Lines.{Avoids, lines_text, lines_text-append, parts, parts-append, parts-first, parts-lines, utf8_around, utf8_lines}
use Rattle.law_texts.proofs.PrintedTraces.Readings.{Reads, after_texts, parts_are, read_whole, reads-one, reads-then}
use Rattle.law_texts.proofs.PrintedTraces.Rows.{one_line_row, row_read}
use Rattle.law_texts.proofs.PrintedTraces.Tables.{lines_of_tables, names_after, names_is_line, names_line_is, names_read, names_text, row_lines_are, table_is_line, tables_read, tables_text, with_tables}
use Rattle.law_texts.proofs.PrintedTraces.Turns.{own_line, turn_is_line, turn_is_no_journal, turn_is_read, turn_text}
use Rattle.law_texts.proofs.PrintedTraces.Verdicts.{verdict_is_line, verdict_is_no_journal, verdict_is_no_turn, verdict_is_read, verdict_line_is, verdict_text}

-- ---- the rows of a turn

rows_read : (clients : ℕ) (lines : List TraceLine) (line : TraceLine) (before rows : List (List Value)) → AllByRecursion CanPrintRow rows
    → Reads clients (after_rows lines line before (length rows)) (map printed_row rows) (Turns (lines ++ with_rows line (before ++ rows) ∷ []))
unfolding after_text
rows_read clients lines line before [] can = ap (λ (all : List (List Value)). Some (Turns (lines ++ with_rows line all ∷ []))) (sym (append-nil before))
rows_read clients lines line before (row ∷ rows) can =
    let some : (length (row ∷ rows) == 0) ≡ false = grind (arith, nat_tests) in
    let begun : after_rows lines line before (length (row ∷ rows)) ≡ RowsOf (record { lines = lines; line = line; rows = before; left = length (row ∷ rows) }) = rw some refl in
    let fewer : length (row ∷ rows) - 1 ≡ length rows = omega arith in
    let one : after_text clients (RowsOf (record { lines = lines; line = line; rows = before; left = length (row ∷ rows) })) (printed_row row) ≡ Some (after_rows lines line (before ++ row ∷ []) (length rows)) =
    ap (option_map (after_row (record { lines = lines; line = line; rows = before; left = length (row ∷ rows) }))) (row_read row can.0) ∙ ap (λ (left : ℕ). Some (after_rows lines line (before ++ row ∷ []) left)) fewer in
    ap (λ (reading : Reading). after_texts clients reading (map printed_row (row ∷ rows))) begun
    ∙ ap (option_and_then (λ (next : Reading). after_texts clients next (map printed_row rows))) one
    ∙ rows_read clients lines line (before ++ row ∷ []) rows can.1
    ∙ ap (λ (all : List (List Value)). Some (Turns (lines ++ with_rows line all ∷ []))) (append_assoc before (row ∷ []) rows)

-- the lines of the rows that a client read
abbrev row_texts : LineAnswer → List (List ℕ)
row_texts (answers.Rows rows) = map printed_row rows
row_texts answer = []

-- a turn of these parts
abbrev turn_with : Actor → LineAsked → Option Side → Option ℕ → LineAnswer → TraceLine
turn_with actor asked side drawn answer = record { actor = actor; asked = asked; side = side; answer = answer; drawn = drawn }

-- after the turn's own line come its rows
own_after : (clients : ℕ) (lines : List TraceLine) (actor : Actor) (asked : LineAsked) (side : Option Side) (drawn : Option ℕ) (answer : LineAnswer) → CanPrintAnswer answer
    → Reads clients (after_turn lines (own_line (turn_with actor asked side drawn answer))) (row_texts answer) (Turns (lines ++ turn_with actor asked side drawn answer ∷ []))
own_after clients lines actor asked side drawn (answers.Ok count) can = refl
own_after clients lines actor asked side drawn (answers.Error number) can = refl
own_after clients lines actor asked side drawn (answers.Rows rows) can = rows_read clients lines (turn_with actor asked side drawn (answers.Rows [])) [] rows can.1
own_after clients lines actor asked side drawn (answers.Waits by) can = refl
own_after clients lines actor asked side drawn (answers.TimedOut waited) can = refl
own_after clients lines actor asked side drawn answers.Lost can = refl
own_after clients lines actor asked side drawn answers.LostDone can = refl
own_after clients lines actor asked side drawn answers.LostWaited can = refl
own_after clients lines actor asked side drawn answers.LostRefused can = refl
own_after clients lines actor asked side drawn answers.Other can = refl

-- ---- a turn, and all

abbrev lines_of_turn : ℕ → TraceLine → List (List ℕ)
lines_of_turn turn line = turn_text turn line ∷ row_texts line.answer

turn_after : (clients : ℕ) (lines : List TraceLine) (line : TraceLine) → clients < 2 ^ 32 → length lines + 1 < 2 ^ 64 → CanPrintTurn clients line
    → after_text clients (Turns lines) (turn_text (length lines + 1) line) ≡ Some (after_turn lines (own_line line))
unfolding after_text after_turn_or_verdict
turn_after clients lines line few wide can =
    let text : List ℕ = turn_text (length lines + 1) line in
    ap (λ (found : Option TurnRead). or_else (option_map (after_turn lines) found) (option_map (after_verdict lines) (verdict_in text))) (turn_is_read clients (length lines + 1) line few wide can)

turn_read : (clients : ℕ) (lines : List TraceLine) (line : TraceLine) → clients < 2 ^ 32 → length lines + 1 < 2 ^ 64 → CanPrintTurn clients line
    → Reads clients (Turns lines) (lines_of_turn (length lines + 1) line) (Turns (lines ++ line ∷ []))
turn_read clients lines line few wide can =
    ap (option_and_then (λ (next : Reading). after_texts clients next (row_texts line.answer))) (turn_after clients lines line few wide can) ∙ own_after clients lines line.actor line.asked line.side line.drawn line.answer can.numbers

abbrev lines_of_turns : ℕ → List TraceLine → List (List ℕ)
lines_of_turns turn [] = []
lines_of_turns turn (line ∷ lines) = lines_of_turn turn line ++ lines_of_turns (turn + 1) lines

turns_read : (clients : ℕ) (before lines : List TraceLine) → clients < 2 ^ 32 → length before + length lines < 2 ^ 64 → AllByRecursion (CanPrintTurn clients) lines
    → Reads clients (Turns before) (lines_of_turns (length before + 1) lines) (Turns (before ++ lines))
turns_read clients before [] few wide can = ap (λ (lines : List TraceLine). Some (Turns lines)) (sym (append-nil before))
turns_read clients before (line ∷ lines) few wide can =
    let longer : List TraceLine = before ++ line ∷ [] in
    let one : length longer ≡ length before + 1 = length-append before (line ∷ []) in
    let all : longer ++ lines ≡ before ++ line ∷ lines = append_assoc before (line ∷ []) lines in
    let more : Reads clients (Turns longer) (lines_of_turns (length longer + 1) lines) (Turns (longer ++ lines)) = turns_read clients longer lines few (omega (arith, one)) can.1 in
    let following : Reads clients (Turns longer) (lines_of_turns (length before + 1 + 1) lines) (Turns (before ++ line ∷ lines)) =
    subst (λ (turn : ℕ). Reads clients (Turns longer) (lines_of_turns (turn + 1) lines) (Turns (before ++ line ∷ lines))) one (subst (λ (turns : List TraceLine). Reads clients (Turns longer) (lines_of_turns (length longer + 1) lines) (Turns turns)) all more) in
    reads-then clients (Turns before) (Turns longer) (Turns (before ++ line ∷ lines)) (lines_of_turn (length before + 1) line) (lines_of_turns (length before + 1 + 1) lines)
    (turn_read clients before line few (omega arith) can.0) following

rows_text : (answer : LineAnswer) → read_rows_text answer ≡ lines_text (row_texts answer)
unfolding read_rows_text
rows_text (answers.Ok count) = refl
rows_text (answers.Error number) = refl
rows_text (answers.Rows rows) = row_lines_are rows
rows_text (answers.Waits by) = refl
rows_text (answers.TimedOut waited) = refl
rows_text answers.Lost = refl
rows_text answers.LostDone = refl
rows_text answers.LostWaited = refl
rows_text answers.LostRefused = refl
rows_text answers.Other = refl

turns_text_is : (turn : ℕ) (lines : List TraceLine) → turns_text turn lines ≡ lines_text (lines_of_turns turn lines)
unfolding turns_text turn_line
turns_text_is turn [] = refl
turns_text_is turn (line ∷ lines) =
    let own : List ℕ = turn_text turn line ++ codes "\n" in
    ap (λ (rows : List ℕ). own ++ rows ++ turns_text (turn + 1) lines) (rows_text line.answer)
    ∙ ap (λ (others : List ℕ). own ++ lines_text (row_texts line.answer) ++ others) (turns_text_is (turn + 1) lines)
    ∙ sym (lines_text-append (lines_of_turn turn line) (lines_of_turns (turn + 1) lines))

-- ---- all lines

abbrev all_lines : Trace → Database → Database → List (List ℕ)
all_lines trace tables exist = lines_of_turns 1 trace.lines ++ verdict_text trace.verdict ∷ (lines_of_tables tables ++ names_text exist ∷ [])

abbrev no_tables : List TraceLine → Verdict → LeftTables
no_tables lines verdict = record { lines = lines; verdict = verdict; tables = []; current = None }

verdict_after : (clients : ℕ) (lines : List TraceLine) (verdict : Verdict) → CanPrintVerdict verdict → after_text clients (Turns lines) (verdict_text verdict) ≡ Some (Tables (no_tables lines verdict))
unfolding after_text after_turn_or_verdict
verdict_after clients lines verdict can = rw (verdict_is_no_turn clients (length lines + 1) verdict, verdict_is_read verdict can) refl

names_then : (clients : ℕ) (left : LeftTables) (trace : Trace) (exist : Database) → after_names left ≡ Named trace → Reads clients (Tables left) (names_text exist ∷ [] ∷ []) (Whole trace)
unfolding after_text
names_then clients left trace exist is =
    ap (option_and_then (λ (next : Reading). after_texts clients next ([] ∷ []))) (names_read clients left exist ∙ ap (λ (reading : Reading). Some reading) is)

all_read : (plan : PlanData) (trace : Trace) (tables exist : Database) → CanPrintTrace plan trace tables → Reads (length plan.clients) (Turns []) (all_lines trace tables exist ++ [] ∷ []) (Whole trace)
all_read plan trace tables exist can =
    let clients : ℕ = length plan.clients in
    let start : LeftTables = no_tables trace.lines trace.verdict in
    let turns : Reads clients (Turns []) (lines_of_turns 1 trace.lines) (Turns trace.lines) = turns_read clients [] trace.lines can.few (let short : length trace.lines < 2 ^ 64 = can.short in omega (arith, short)) can.turns in
    let verdict : Reads clients (Turns trace.lines) (verdict_text trace.verdict ∷ []) (Tables start) = reads-one clients (Turns trace.lines) (Tables start) (verdict_text trace.verdict) (verdict_after clients trace.lines trace.verdict can.ended) in
    let read_tables : Reads clients (Tables start) (lines_of_tables tables) (Tables (with_tables start tables)) = tables_read clients start tables can.tables in
    let named : after_names (with_tables start tables) ≡ Named trace =
    names_after start tables ∙ ap (λ (texts : List (List ℕ)). Named (record { lines = trace.lines; verdict = trace.verdict; tables = texts })) (sym can.printed) in
    let last : Reads clients (Tables (with_tables start tables)) (names_text exist ∷ [] ∷ []) (Whole trace) = names_then clients (with_tables start tables) trace exist named in
    let left : Reads clients (Tables start) (lines_of_tables tables ++ names_text exist ∷ [] ∷ []) (Whole trace) =
    reads-then clients (Tables start) (Tables (with_tables start tables)) (Whole trace) (lines_of_tables tables) (names_text exist ∷ [] ∷ []) read_tables last in
    let ended : Reads clients (Turns trace.lines) (verdict_text trace.verdict ∷ (lines_of_tables tables ++ names_text exist ∷ [] ∷ [])) (Whole trace) =
    reads-then clients (Turns trace.lines) (Tables start) (Whole trace) (verdict_text trace.verdict ∷ []) (lines_of_tables tables ++ names_text exist ∷ [] ∷ []) verdict left in
    let all : Reads clients (Turns []) (lines_of_turns 1 trace.lines ++ verdict_text trace.verdict ∷ (lines_of_tables tables ++ names_text exist ∷ [] ∷ [])) (Whole trace) =
    reads-then clients (Turns []) (Turns trace.lines) (Whole trace) (lines_of_turns 1 trace.lines) (verdict_text trace.verdict ∷ (lines_of_tables tables ++ names_text exist ∷ [] ∷ [])) turns ended in
    subst (λ (lines : List (List ℕ)). Reads clients (Turns []) lines (Whole trace))
    (sym (append_assoc (lines_of_turns 1 trace.lines) (verdict_text trace.verdict ∷ (lines_of_tables tables ++ names_text exist ∷ [])) ([] ∷ [])
    ∙ ap (λ (rest : List (List ℕ)). lines_of_turns 1 trace.lines ++ verdict_text trace.verdict ∷ rest) (append_assoc (lines_of_tables tables) (names_text exist ∷ []) ([] ∷ [])))) all

-- ---- each is one line, and none is the line `#journal`

abbrev IsLine : List ℕ → Type 0
IsLine line = Avoids 10 line × (is_journal line ≡ false)

both_are : (one other : List (List ℕ)) → AllByRecursion IsLine one → AllByRecursion IsLine other → AllByRecursion IsLine (one ++ other)
both_are [] other first second = second
both_are (line ∷ one) other first second = (first.0, both_are one other first.1 second)

row_is_no_journal : (row : List Value) → is_journal (printed_row row) ≡ false
unfolding printed_row
row_is_no_journal row = refl

rows_are : (rows : List (List Value)) → AllByRecursion CanPrintRow rows → AllByRecursion IsLine (map printed_row rows)
rows_are [] can = tt
rows_are (row ∷ rows) can = ((one_line_row row can.0.1, row_is_no_journal row), rows_are rows can.1)

answer_rows_are : (answer : LineAnswer) → CanPrintAnswer answer → AllByRecursion IsLine (row_texts answer)
answer_rows_are (answers.Ok count) can = tt
answer_rows_are (answers.Error number) can = tt
answer_rows_are (answers.Rows rows) can = rows_are rows can.1
answer_rows_are (answers.Waits by) can = tt
answer_rows_are (answers.TimedOut waited) can = tt
answer_rows_are answers.Lost can = tt
answer_rows_are answers.LostDone can = tt
answer_rows_are answers.LostWaited can = tt
answer_rows_are answers.LostRefused can = tt
answer_rows_are answers.Other can = tt

turns_are : (clients turn : ℕ) (lines : List TraceLine) → clients < 2 ^ 32 → turn + length lines ≤ 2 ^ 64 → AllByRecursion (CanPrintTurn clients) lines → AllByRecursion IsLine (lines_of_turns turn lines)
turns_are clients turn [] few wide can = tt
turns_are clients turn (line ∷ lines) few wide can =
    let small : turn < 2 ^ 64 = omega arith in (
      (turn_is_line clients turn line few small can.0, turn_is_no_journal turn line small),
      both_are (row_texts line.answer) (lines_of_turns (turn + 1) lines) (answer_rows_are line.answer can.0.numbers) (turns_are clients (turn + 1) lines few (omega arith) can.1),
    )

tables_are : (tables : Database) → AllByRecursion CanPrintTable tables → AllByRecursion IsLine (lines_of_tables tables)
tables_are [] can = tt
tables_are (table ∷ tables) can =
    ((table_is_line table.schema can.0.name can.0.columns, refl), both_are (map printed_row table.rows) (lines_of_tables tables) (rows_are table.rows can.0.rows) (tables_are tables can.1))

lines_are : (plan : PlanData) (trace : Trace) (tables exist : Database) → CanPrintTrace plan trace tables → AllByRecursion (λ table. IsOneLine table.schema.name) exist → AllByRecursion IsLine (all_lines trace tables exist)
lines_are plan trace tables exist can named =
    both_are (lines_of_turns 1 trace.lines) (verdict_text trace.verdict ∷ (lines_of_tables tables ++ names_text exist ∷ [])) (turns_are (length plan.clients) 1 trace.lines can.few (let short : length trace.lines < 2 ^ 64 = can.short in omega (arith, short)) can.turns)
    ((verdict_is_line trace.verdict can.ended, verdict_is_no_journal trace.verdict), both_are (lines_of_tables tables) (names_text exist ∷ []) (tables_are tables can.tables) ((names_is_line exist named, refl), tt))

one_line_each : (lines : List (List ℕ)) → AllByRecursion IsLine lines → AllByRecursion (Avoids 10) lines
one_line_each [] all = tt
one_line_each (line ∷ lines) all = (all.0.0, one_line_each lines all.1)

no_journal : (lines : List (List ℕ)) → AllByRecursion IsLine lines → AllByRecursion (λ line. is_journal line ≡ false) (lines ++ [] ∷ [])
no_journal [] all = (refl, tt)
no_journal (line ∷ lines) all = (all.0.1, no_journal lines all.1)

-- ---- the text

apart : (bytes turns verdict tables names : List ℕ) → bytes ++ codes "\n" ++ (journal_line ++ turns ++ verdict ++ tables ++ names) ≡ bytes ++ 10 ∷ (codes "#journal" ++ 10 ∷ (turns ++ (verdict ++ (tables ++ names))))
apart bytes turns verdict tables names = simp append_assoc

-- what comes after the line `#journal`
abbrev turns_on : Trace → Database → Database → List ℕ
turns_on trace tables exist = lines_text (all_lines trace tables exist)

joined : (turns tables : List (List ℕ)) (verdict names : List ℕ) → lines_text (turns ++ verdict ∷ (tables ++ names ∷ [])) ≡ lines_text turns ++ ((verdict ++ codes "\n") ++ (lines_text tables ++ (names ++ codes "\n")))
joined turns tables verdict names =
    lines_text-append turns (verdict ∷ (tables ++ names ∷ []))
    ∙ ap (λ (rest : List ℕ). lines_text turns ++ ((verdict ++ codes "\n") ++ rest)) (lines_text-append tables (names ∷ []) ∙ ap (λ (last : List ℕ). lines_text tables ++ last) (append-nil (names ++ codes "\n")))

text_is : (bytes : List ℕ) (plan : PlanData) (trace : Trace) (tables exist : Database) → CanPrintTrace plan trace tables → text_of bytes trace exist ≡ bytes ++ 10 ∷ (codes "#journal" ++ 10 ∷ turns_on trace tables exist)
unfolding journal_text
text_is bytes plan trace tables exist can =
    let printed : flat_map (λ table. table) trace.tables ≡ lines_text (lines_of_tables tables) = ap (flat_map (λ table. table)) can.printed ∙ tables_text tables in
    apart bytes (turns_text 1 trace.lines) (verdict_line trace.verdict) (flat_map (λ table. table) trace.tables) (names_line exist)
    ∙ ap (λ (rest : List ℕ). bytes ++ 10 ∷ (codes "#journal" ++ 10 ∷ rest))
    (rw (turns_text_is 1 trace.lines, verdict_line_is trace.verdict, printed, names_line_is exist) (sym (joined (lines_of_turns 1 trace.lines) (lines_of_tables tables) (verdict_text trace.verdict) (names_text exist))))

-- its lines
cut_is : (bytes : List ℕ) (lines : List (List ℕ)) → AllByRecursion (Avoids 10) lines → lines_of (bytes ++ 10 ∷ (codes "#journal" ++ 10 ∷ lines_text lines)) ≡ parts 10 bytes ++ codes "#journal" ∷ (lines ++ [] ∷ [])
cut_is bytes lines all =
    parts-append 10 bytes (codes "#journal" ++ 10 ∷ lines_text lines)
    ∙ ap (λ (rest : List (List ℕ)). parts 10 bytes ++ rest)
    (parts-first 10 (codes "#journal") (lines_text lines) (refl, (refl, (refl, (refl, (refl, (refl, (refl, (refl, tt)))))))) ∙ ap (λ (rest : List (List ℕ)). codes "#journal" ∷ rest) (parts-lines lines all))

utf8_each : (lines : List (List ℕ)) → AllByRecursion (λ line. is_utf8 line ≡ true) lines → AllByRecursion (λ line. is_utf8 line ≡ true) (lines ++ [] ∷ [])
unfolding is_utf8
utf8_each [] all = (is_utf8-from_IsUtf8 [] IsUtf8-nil, tt)
utf8_each (line ∷ lines) all = (all.0, utf8_each lines all.1)

-- ---- the text is read

parts_read : (bytes : List ℕ) (plan : PlanData) (trace : Trace) (lines : List (List ℕ)) → read bytes ≡ Ok plan → trace_in (length plan.clients) lines ≡ Ok trace → read_parts (record { plan = bytes; lines = lines }) ≡ Ok (plan, trace)
unfolding read_parts
parts_read bytes plan trace lines is said = rw is (rw said refl)

pub printed_traces_are_read : PrintedTracesAreRead
unfolding read_trace
printed_traces_are_read bytes plan trace tables exist is can named utf8 short =
    let lines : List (List ℕ) = all_lines trace tables exist in
    let text : List ℕ = text_of bytes trace exist in
    let each : AllByRecursion IsLine lines = lines_are plan trace tables exist can named in
    let same : text ≡ bytes ++ 10 ∷ (codes "#journal" ++ 10 ∷ lines_text lines) = text_is bytes plan trace tables exist can in
    let few : nat_lt TRACE_LIMIT (length text) ≡ false = grind (arith, nat_tests) in
    let after : IsUtf8 (lines_text lines) = (utf8_around (codes "#journal") (lines_text lines) (utf8_around bytes (codes "#journal" ++ 10 ∷ lines_text lines) (subst IsUtf8 same utf8)).1).1 in
    let cut : parts_of (lines_of text) ≡ Some (record { plan = bytes; lines = lines ++ [] ∷ [] }) =
    ap (λ (one : List ℕ). parts_of (lines_of one)) same ∙ ap parts_of (cut_is bytes lines (one_line_each lines each)) ∙ parts_are (parts 10 bytes) (lines ++ [] ∷ []) (no_journal lines each)
    ∙ ap (λ (front : List ℕ). Some (record { plan = front; lines = lines ++ [] ∷ [] })) (join_with_byte-slice_split 10 bytes) in
    let said : trace_in (length plan.clients) (lines ++ [] ∷ []) ≡ Ok trace =
    read_whole (length plan.clients) 1 (Turns []) (lines ++ [] ∷ []) trace (utf8_each lines (utf8_lines lines after)) (all_read plan trace tables exist can) in
    rw few (ap (λ (found : Option TraceParts). or_no_journal found >>= read_parts) cut ∙ parts_read bytes plan trace (lines ++ [] ∷ []) is said)
