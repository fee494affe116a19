-- The turns of a whole journal can be printed, and are no more than the bytes of their text.
use Rattle.std.proofs.Common.{◌≡◌, ◌≤◌, ℕ, ◌+◌, true, not, ◌&&◌, codes, List, [], ◌∷◌, ◌++◌, length, Option, Some, None, refl, sym, ap, subst, arith, append_assoc}
use Rattle.std.specs.Fmt.{decimal}
use Rattle.std.specs.List.{AllByRecursion, flat_map}
use Rattle.std.proofs.lemmas.List.{length-append}
use Rattle.base_script.specs.declared.actor.Actor.{Actor}
use Rattle.base_script.specs.declared.actor.Actor.TheVariants.{Op, Insp, Copy, Apply, Lock, Ren, Client}
use Rattle.base_script.specs.declared.actor.Side.{Side}
use Rattle.base_script.specs.declared.actor.Side.TheVariants.{Before, After}
use Rattle.base_values.proofs.SchemaRules.Lists.{All-append}
use Rattle.table_store.specs.Databases.{Database}
use Rattle.server_model.specs.declared.answer.Answer.{Answer}
use Rattle.server_model.specs.declared.answer.Answer.TheVariants as answers
use Rattle.server_model.specs.declared.entry.Asked.{Asked}
use Rattle.server_model.specs.declared.entry.Asked.TheVariants.{Call, Poll, Command, Cut}
use Rattle.server_model.specs.declared.entry.Entry.{Entry}
use Rattle.server_model.specs.declared.request.Request.{Request}
use Rattle.server_model.specs.declared.request.Request.TheVariants as requests
use Rattle.server_model.specs.Entries.{is_client}
use Rattle.plan_data.specs.PlanData.{PlanData}
use Rattle.tool_program.specs.JournalWords.Journals.{IsAnswered, may_lose, state_at}
use Rattle.proof_audit.specs.Wholes.{IsWhole}
use Rattle.proof_audit.proofs.Wholes.{IsTurn, turn_next}
use Rattle.run_audit.specs.declared.line.TraceLine.{TraceLine}
use Rattle.run_audit.specs.declared.trace.Trace.{Trace}
use Rattle.run_audit.specs.Lines.{asked_of, heard_answer, line_answer, line_of, lines_of, missed_answer}
use Rattle.top_report.specs.Turns.{actor_word}
use Rattle.top_report.specs.Verdicts.{verdict_line}
use Rattle.top_trace.specs.Texts.{answer_text, asked_text, drawn_text, journal_line, journal_text, read_rows_text, side_text, turn_line, turns_text}
use Rattle.top_trace_reader.specs.Turns.{fits, fits_actor, was_missed}
use Rattle.law_texts.specs.PrintedTraces.{CanDraw, CanHaveSide, CanPrintAnswer, CanPrintRow, CanPrintTable, CanPrintTurn}
use Rattle.law_traces.specs.Printed.{HaveOneLineNames}
use Rattle.law_traces.proofs.PlanActors.{AreIts, turn_its}

-- ---- a turn

beside_call : (request : Request) (side : Option Side) → CanHaveSide (asked_of (Call request)) side
beside_call (requests.Rename pairs) side = tt
beside_call request side = tt

beside : (asked : Asked) (side : Option Side) → (asked ≡ Cut → side ≡ None) → ((word : _) → asked ≡ Command word → side ≡ None) → CanHaveSide (asked_of asked) side
beside (Call request) side cut command = beside_call request side
beside Poll side cut command = tt
beside (Command word) side cut command = command word refl
beside Cut side cut command = cut refl

-- an answer that was heard, of this actor
heard_fits : (actor : Actor) (answer : Answer) → (not (was_missed (heard_answer (is_client actor) answer)) && fits_actor actor (heard_answer (is_client actor) answer)) ≡ true
heard_fits actor (answers.Ok count) = refl
heard_fits actor (answers.Refused number column) = refl
heard_fits Op (answers.Rows rows) = refl
heard_fits Insp (answers.Rows rows) = refl
heard_fits Copy (answers.Rows rows) = refl
heard_fits Apply (answers.Rows rows) = refl
heard_fits Lock (answers.Rows rows) = refl
heard_fits Ren (answers.Rows rows) = refl
heard_fits (Client number) (answers.Rows rows) = refl
heard_fits actor (answers.Waits by) = refl
heard_fits actor (answers.TimedOut waited) = refl
heard_fits actor answers.Lost = refl
heard_fits actor answer = refl

-- an answer that was missed
missed_fits : (actor : Actor) (missed : Option Answer) → (was_missed (missed_answer missed) && fits_actor actor (missed_answer missed)) ≡ true
missed_fits actor (Some (answers.Waits by)) = refl
missed_fits actor (Some (answers.Refused number column)) = refl
missed_fits actor (Some (answers.TimedOut waited)) = refl
missed_fits actor missed = refl

answer_fits : (actor : Actor) (side : Option Side) (answer : Answer) (missed : Option Answer) → fits actor side (line_answer (is_client actor) side answer missed) ≡ true
answer_fits actor None answer missed = heard_fits actor answer
answer_fits actor (Some Before) answer missed = heard_fits actor answer
answer_fits actor (Some After) answer missed = missed_fits actor missed

-- ---- all turns

module _ (plan : PlanData) where
  abbrev HasPlain : TraceLine → Type 0
  HasPlain line = CanPrintAnswer line.answer × CanDraw line.answer line.drawn

  turn_prints : (before : List Entry) (entry : Entry) (later : List Entry) → IsWhole plan (before ++ entry ∷ later) → AreIts plan before → HasPlain (line_of entry) → CanPrintTurn (length plan.clients) (line_of entry)
  turn_prints before entry later whole its plain =
      let turn : IsTurn plan before entry = turn_next plan before entry later whole in
      let answered : IsAnswered (state_at plan before) entry = turn.answered in
      record {
        its = turn_its plan before entry its turn;
        beside = beside entry.asked entry.side (λ cut. answered.sides (ap may_lose cut)) (λ word command. answered.sides (ap may_lose command));
        fitting = answer_fits entry.actor entry.side entry.answer entry.missed;
        numbers = plain.0;
        draw = plain.1;
      }

  pub turns_print : (before later : List Entry) → IsWhole plan (before ++ later) → AreIts plan before → AllByRecursion HasPlain (lines_of later) → AllByRecursion (CanPrintTurn (length plan.clients)) (lines_of later)
  turns_print before [] whole its plain = tt
  turns_print before (entry ∷ later) whole its plain =
      let turn = turn_prints before entry later whole its plain.0 in (
        turn,
        turns_print (before ++ entry ∷ []) later (subst (IsWhole plan) (sym (append_assoc before (entry ∷ []) later)) whole) (All-append (λ (one : Entry). _) before (entry ∷ []) its (turn.its, tt)) plain.1,
      )

-- ---- lengths

front_short : {A : Type 0} (front back : List A) → length front ≤ length (front ++ back)
front_short front back = let both = length-append front back in omega (arith, both)

back_short : {A : Type 0} (front back : List A) → length back ≤ length (front ++ back)
back_short front back = let both = length-append front back in omega (arith, both)

-- each turn has a byte at least
turn_long : (turn : ℕ) (line : TraceLine) → 1 ≤ length (turn_line turn line)
unfolding turn_line
turn_long turn line =
    let front : List ℕ = decimal turn ++ codes " " ++ actor_word line.actor ++ codes " " ++ asked_text line.asked ++ side_text line.side ++ codes " " ++ answer_text line.answer ++ drawn_text line.drawn in
    let both : length (front ++ codes "\n") ≡ length front + 1 = length-append front (codes "\n") in
    let long : 1 ≤ length (front ++ codes "\n") = omega (arith, both) in long

turns_short : (turn : ℕ) (lines : List TraceLine) → length lines ≤ length (turns_text turn lines)
unfolding turns_text
turns_short turn [] = omega arith
turns_short turn (line ∷ lines) =
    let own : List ℕ = turn_line turn line ++ read_rows_text line.answer in
    let rest : List ℕ = turns_text (turn + 1) lines in
    let others : length lines ≤ length rest = turns_short (turn + 1) lines in
    let some : 1 ≤ length (turn_line turn line) = turn_long turn line in
    let more : length (turn_line turn line) ≤ length own = front_short (turn_line turn line) (read_rows_text line.answer) in
    let both : length (own ++ rest) ≡ length own + length rest = length-append own rest in
    let short : length (line ∷ lines) ≤ length (own ++ rest) = omega (arith, others, some, more, both) in short

pub lines_short : (bytes : List ℕ) (trace : Trace) (names : List ℕ) → length trace.lines ≤ length (bytes ++ codes "\n" ++ journal_text trace names)
unfolding journal_text
lines_short bytes trace names =
    let turns : List ℕ = turns_text 1 trace.lines in
    let verdict : List ℕ = verdict_line trace.verdict in
    let tables : List ℕ = flat_map (λ table. table) trace.tables in
    let one : length trace.lines ≤ length turns = turns_short 1 trace.lines in
    let two : length turns ≤ length (journal_line ++ turns) = back_short journal_line turns in
    let three : length (journal_line ++ turns) ≤ length (journal_line ++ turns ++ verdict) = front_short (journal_line ++ turns) verdict in
    let four : length (journal_line ++ turns ++ verdict) ≤ length (journal_line ++ turns ++ verdict ++ tables) = front_short (journal_line ++ turns ++ verdict) tables in
    let five : length (journal_line ++ turns ++ verdict ++ tables) ≤ length (journal_line ++ turns ++ verdict ++ tables ++ names) = front_short (journal_line ++ turns ++ verdict ++ tables) names in
    let six : length (journal_line ++ turns ++ verdict ++ tables ++ names) ≤ length (bytes ++ codes "\n" ++ (journal_line ++ turns ++ verdict ++ tables ++ names)) = back_short (bytes ++ codes "\n") (journal_line ++ turns ++ verdict ++ tables ++ names) in
    let short : length trace.lines ≤ length (bytes ++ codes "\n" ++ (journal_line ++ turns ++ verdict ++ tables ++ names)) = omega (arith, one, two, three, four, five, six) in short

-- ---- the law

pub table_prints : (tables : Database) → HaveOneLineNames tables → AllByRecursion (λ table. AllByRecursion CanPrintRow table.rows) tables → AllByRecursion CanPrintTable tables
table_prints [] names rows = tt
table_prints (table ∷ tables) names rows = (record { name = names.0.0; columns = names.0.1; rows = rows.0 }, table_prints tables names.1 rows.1)
