-- Lines of a trace.
use Rattle.std.proofs.Common.{◌≡◌, Bool, true, false, ℕ, List, [], ◌∷◌, ◌++◌, map, Option, Some, None, refl, sym, ap, ◌∙◌, append_assoc, append-nil}
use Rattle.std.specs.Prelude.{codes}
use Rattle.std.specs.Fmt.{decimal}
use Rattle.std.specs.List.{flat_map}
use Rattle.server_model.specs.declared.answer.Answer.{Answer}
use Rattle.server_model.specs.declared.answer.Answer.TheVariants as answers
use Rattle.server_model.specs.declared.entry.Asked.TheVariants.{Call}
use Rattle.server_model.specs.declared.entry.Entry.{Entry}
use Rattle.server_model.specs.declared.lost_calls.LostCall.{LostCall}
use Rattle.server_model.specs.declared.request.Request.{Request}
use Rattle.server_model.specs.declared.request.Request.TheVariants as requests
use Rattle.server_model.specs.LostCalls.{lost_of}
use Rattle.table_store.specs.Databases.{Database}
use Rattle.run_audit.specs.declared.line.LineAnswer.TheVariants as line_answers
use Rattle.run_audit.specs.declared.line.LineAsked.TheVariants as asks
use Rattle.run_audit.specs.Lines.{asked_of, drawn_shown, heard_answer, line_of, missed_answer, printed_table}
use Rattle.top_report.specs.Tables.{rows_text, tables_text}
use Rattle.top_report.specs.Turns.{actor_word}
use Rattle.top_trace.specs.Texts.{answer_text, asked_text, drawn_text, read_rows_text, side_text, turn_line}

-- the tables with all rows, each as a trace has it
pub tables_printed : (tables : Database) → tables_text true tables ≡ flat_map (λ text. text) (map printed_table tables)
unfolding tables_text rows_text
tables_printed [] = refl
tables_printed (table ∷ tables) = ap (λ (rest : List ℕ). printed_table table ++ rest) (tables_printed tables)

no_rows : (missed : Option Answer) → read_rows_text (missed_answer missed) ≡ []
unfolding read_rows_text
no_rows None = refl
no_rows (Some (answers.Ok count)) = refl
no_rows (Some (answers.Rows rows)) = refl
no_rows (Some (answers.Keys keys end)) = refl
no_rows (Some (answers.Ends range)) = refl
no_rows (Some (answers.End key)) = refl
no_rows (Some (answers.At count)) = refl
no_rows (Some (answers.Events events next)) = refl
no_rows (Some (answers.Tables tables)) = refl
no_rows (Some (answers.Waiting waiters)) = refl
no_rows (Some (answers.Refused number column)) = refl
no_rows (Some (answers.Waits by)) = refl
no_rows (Some (answers.TimedOut waited)) = refl
no_rows (Some answers.Lost) = refl

-- of an answer that nobody heard no row is printed
pub missed_rows : (into : List ℕ) (missed : Option Answer) → into ≡ into ++ read_rows_text (missed_answer missed)
missed_rows into missed = sym (append-nil into) ∙ ap (λ (rows : List ℕ). into ++ rows) (sym (no_rows missed))

-- WHICH NUMBER A LINE SHOWS

pub refused_shows : (draw : Option ℕ) → drawn_shown draw line_answers.LostRefused ≡ None
refused_shows None = refl
refused_shows (Some number) = refl

pub done_shows : (draw : Option ℕ) → drawn_shown draw line_answers.LostDone ≡ draw
done_shows None = refl
done_shows (Some number) = refl

pub waited_shows : (draw : Option ℕ) → drawn_shown draw line_answers.LostWaited ≡ draw
waited_shows None = refl
waited_shows (Some number) = refl

pub heard_shows : (draw : Option ℕ) (client : Bool) (answer : Answer) → drawn_shown draw (heard_answer client answer) ≡ draw
heard_shows None client answer = refl
heard_shows (Some number) client (answers.Ok count) = refl
heard_shows (Some number) true (answers.Rows rows) = refl
heard_shows (Some number) false (answers.Rows rows) = refl
heard_shows (Some number) client (answers.Keys keys end) = refl
heard_shows (Some number) client (answers.Ends range) = refl
heard_shows (Some number) client (answers.End key) = refl
heard_shows (Some number) client (answers.At count) = refl
heard_shows (Some number) client (answers.Events events next) = refl
heard_shows (Some number) client (answers.Tables tables) = refl
heard_shows (Some number) client (answers.Waiting waiters) = refl
heard_shows (Some number) client (answers.Refused code column) = refl
heard_shows (Some number) client (answers.Waits by) = refl
heard_shows (Some number) client (answers.TimedOut waited) = refl
heard_shows (Some number) client answers.Lost = refl

-- the parts of a turn's line
pub turn_printed : (turn : ℕ) (entry : Entry) (into one two three four five six : List ℕ) → one ≡ into ++ (decimal turn ++ codes " " ++ actor_word entry.actor ++ codes " ") → two ≡ one ++ (asked_text (asked_of entry.asked) ++ side_text entry.side) → three ≡ two ++ codes " "
    → four ≡ three ++ answer_text (line_of entry).answer → five ≡ four ++ drawn_text (line_of entry).drawn → six ≡ five ++ codes "\n" → six ≡ into ++ turn_line turn (line_of entry)
unfolding turn_line
turn_printed turn entry into one two three four five six front request blank answer draw end =
    let first = decimal turn ++ codes " " ++ actor_word entry.actor ++ codes " " in
    let asked = asked_text (asked_of entry.asked) in
    let side = side_text entry.side in
    let said = answer_text (line_of entry).answer in
    let drawn = drawn_text (line_of entry).drawn in
    let second = first ++ asked ++ side in
    let third = second ++ codes " " in
    let fourth = third ++ said in
    let fifth = fourth ++ drawn in
    let to_second : two ≡ into ++ second = request ∙ ap (λ (text : List ℕ). text ++ (asked ++ side)) front ∙ append_assoc into first (asked ++ side) ∙ ap (λ (text : List ℕ). into ++ text) (sym (append_assoc first asked side)) in
    let to_third : three ≡ into ++ third = blank ∙ ap (λ (text : List ℕ). text ++ codes " ") to_second ∙ append_assoc into second (codes " ") in
    let to_fourth : four ≡ into ++ fourth = answer ∙ ap (λ (text : List ℕ). text ++ said) to_third ∙ append_assoc into third said in
    let to_fifth : five ≡ into ++ fifth = draw ∙ ap (λ (text : List ℕ). text ++ drawn) to_fourth ∙ append_assoc into fourth drawn in
    end ∙ ap (λ (text : List ℕ). text ++ codes "\n") to_fifth ∙ append_assoc into fifth (codes "\n")

-- a RENAME is kept whole
pub lost_asked : (request : Request) (lost : LostCall) → lost_of request ≡ Some lost → asked_of (Call request) ≡ asks.Call
lost_asked (requests.Rename pairs) lost is = absurd (cc)
lost_asked request lost is = refl
