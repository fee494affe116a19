-- Each row of a note is a heartbeat that is written, and counts as one more that was begun; a checkpoint behind such a heartbeat; or
-- a row that is lost, for which a loss of the plan stands.
use Rattle.std.proofs.Common.{◌≡◌, ◌≤◌, ◌<◌, ℕ, zero, suc, ◌+◌, ◌-◌, ◌*◌, ◌==◌, Bool, true, false, cond, ◌&&◌, List, [], ◌∷◌, ◌++◌, length, Option, Some, None, refl, sym, ap, ◌∙◌, subst, arith}
use Rattle.std.specs.Prelude.{is_some}
use Rattle.std.proofs.lemmas.Bool.{or_right}
use Rattle.std.proofs.lemmas.Bool.Decides.{nat_tests}
use Rattle.std.proofs.lemmas.List.Sums.{fold-append, sum_by_push}
use Rattle.base_script.specs.declared.actor.Actor.{Actor}
use Rattle.base_script.specs.declared.actor.Actor.TheVariants.{Insp}
use Rattle.base_script.specs.declared.actor.Side.{Side}
use Rattle.base_script.specs.declared.statement.Statement.TheVariants as statements
use Rattle.base_values.specs.declared.value.Value.{Value}
use Rattle.server_model.specs.Along.{Along-keeps}
use Rattle.server_model.specs.declared.answer.Answer.{Answer}
use Rattle.server_model.specs.declared.answer.Answer.TheVariants as answers
use Rattle.server_model.specs.declared.entry.Asked.{Asked}
use Rattle.server_model.specs.declared.entry.Asked.TheVariants.{Call}
use Rattle.server_model.specs.declared.entry.Entry.{Entry}
use Rattle.server_model.specs.declared.request.Request.{Request}
use Rattle.server_model.specs.declared.request.Request.TheVariants as requests
use Rattle.server_model.specs.Entries.{same_actor, is_cut}
use Rattle.plan_data.specs.PlanData.{PlanData}
use Rattle.tool_program.specs.JournalWords.Bounds.{measures}
use Rattle.tool_program.specs.NoteWriter.Notes as notes
use Rattle.tool_program.specs.NoteWriter.Notes.{is_checkpoint, new_notes, noted, notes_of, row_written}
use Rattle.tool_program.specs.declared.note_writer.notes.NoteStep.{NoteStep}
use Rattle.tool_program.specs.declared.note_writer.notes.NoteStep.TheVariants.{Checking}
use Rattle.tool_program.specs.declared.note_writer.notes.Notes.{Notes}
use Rattle.proof_bounds.specs.Laws.{is_struck, struck_turns}
use Rattle.proof_bounds.specs.Notes.{Comes, IsWritten, NoteGoes, NotesAreFew, RowGoes, is_note, note_turns, replaces}
use Rattle.proof_bounds.proofs.Losses.{losses_strike}

-- WHICH TURNS WRITE A ROW

-- a turn either writes none, and moves no note; or writes one
data Turn (actor : Actor) (asks : Asked) : Type 0 where
  other_so : (same_actor actor Insp && replaces asks) ≡ false → ((now : Notes) (answer : Answer) → notes.asked actor asks now answer ≡ now) → Turn actor asks
  row_so : (table : List ℕ) (columns : Option (List (List ℕ))) (row : List Value) (drawn : Option ℕ) → actor ≡ Insp → asks ≡ Call (requests.Do (statements.Replace table columns row drawn)) → Turn actor asks

called_turn : (request : Request) → Turn Insp (Call request)
called_turn (requests.Do (statements.Replace table columns row drawn)) = row_so table columns row drawn refl refl
called_turn request = other_so refl (λ now answer. refl)

turn_of : (actor : Actor) (asks : Asked) → Turn actor asks
turn_of Insp (Call request) = called_turn request
turn_of actor asks = other_so refl (λ now answer. refl)

-- WHAT IS COUNTED

-- a checkpoint is still to come
abbrev checking : NoteStep → ℕ
checking Checking = 1
checking step = 0

-- of these rows, and with so many turns in which a session was lost
record Fits (plan : PlanData) (rows struck : ℕ) (now : Notes) : Type 0 where
  few : rows + checking now.step ≤ 2 * now.begun + 2 * struck
  begun : now.begun ≤ plan.options.notes
  some : checking now.step ≤ now.begun

record IsFew (plan : PlanData) (journal : List Entry) : Type 0 where
  fits : Fits plan (note_turns journal) (struck_turns journal) (notes_of journal)
  none : plan.options.notes ≡ 0 → note_turns journal ≡ 0

-- ONE TURN MORE

-- a checkpoint that is lost takes one back
back_one : (plan : PlanData) (rows struck begun : ℕ) → rows + 1 ≤ 2 * begun + 2 * struck → begun ≤ plan.options.notes → 1 ≤ begun → (rows + 1 + 0 ≤ 2 * (begun - 1) + 2 * (struck + 1)) × (begun - 1 ≤ plan.options.notes)
back_one plan rows struck zero few most some = absurd (never some) where
  never : 1 ≤ 0 → ⊥
  never less = omega (arith, less)
back_one plan rows struck (suc begun) few most some = (omega (arith, few), omega (arith, most))

module _ (plan : PlanData) (before : List Entry) (entry : Entry) (goes : NoteGoes plan before entry) (is : IsFew plan before) where
  abbrev more : List Entry
  more = before ++ entry ∷ []

  abbrev was : Notes
  was = notes_of before

  -- one turn further from the last row
  abbrev later : Notes
  later = record was { behind = was.behind + 1 }

  notes_more : notes_of more ≡ noted was entry
  unfolding notes_of
  notes_more = fold-append noted new_notes before (entry ∷ [])

  rows_more : (b : Bool) → is_note entry ≡ b → note_turns more ≡ note_turns before + cond b 1 0
  rows_more b at = sum_by_push (λ (one : Entry). cond (is_note one) 1 0) before entry ∙ ap (λ (c : Bool). note_turns before + cond c 1 0) at

  struck_more : (b : Bool) → is_struck entry ≡ b → struck_turns more ≡ struck_turns before + cond b 1 0
  struck_more b at = sum_by_push (λ (one : Entry). cond (is_struck one) 1 0) before entry ∙ ap (λ (c : Bool). struck_turns before + cond c 1 0) at

  struck_up : struck_turns before ≤ struck_turns more
  struck_up = by (is_struck entry) refl where
    by : (b : Bool) → is_struck entry ≡ b → struck_turns before ≤ struck_turns more
    by b at = let one = struck_more b at in omega (arith, one)

  -- a turn of another kind
  other_few : is_note entry ≡ false → notes_of more ≡ later → IsFew plan more
  other_few other same = record {
    fits = subst (Fits plan (note_turns more) (struck_turns more)) (sym same)
        (let rows = rows_more false other in
        let few = is.fits.few in
        let up = struck_up in
        record { few = omega (arith, rows, few, up); begun = is.fits.begun; some = is.fits.some });
    none = λ zero_notes. let rows = rows_more false other in let old = is.none zero_notes in omega (arith, rows, old);
  }

  -- a row
  module _ (row : List Value) (is_row : is_note entry ≡ true) (one : RowGoes plan before entry row) where
    abbrev New : Notes → Type 0
    New now = Fits plan (note_turns more) (struck_turns more) now

    rows : note_turns more ≡ note_turns before + 1
    rows = rows_more true is_row

    lost_one : (side : Side) → entry.side ≡ Some side → struck_turns more ≡ struck_turns before + 1
    lost_one side at = struck_more true (or_right (is_cut entry.asked) (is_some entry.side) (ap is_some at))

    -- a heartbeat
    beaten_few : was.begun < plan.options.notes → (side : Option Side) → entry.side ≡ side → (answer : Answer) → IsWritten side answer → New (notes.beaten later answer)
    beaten_few room None at (answers.Ok count) done =
        let a = rows in let b = is.fits.few in let c = struck_up in
        record { few = omega (arith, a, b, c); begun = omega (arith, room); some = omega arith }
    beaten_few room None at answer done = absurd done
    beaten_few room (Some side) at answer lost =
        subst (λ (said : Answer). New (notes.beaten later said)) (sym lost)
        (let a = rows in let b = is.fits.few in let c = lost_one side at in
        record { few = omega (arith, a, b, c); begun = is.fits.begun; some = omega arith })

    -- a checkpoint
    checked_few : was.step ≡ Checking → (side : Option Side) → entry.side ≡ side → (answer : Answer) → IsWritten side answer → New (notes.checked later answer)
    checked_few checks None at (answers.Ok count) done =
        let a = rows in let b = is.fits.few in let c = struck_up in let d : checking was.step ≡ 1 = ap checking checks in
        record { few = omega (arith, a, b, c, d); begun = is.fits.begun; some = omega arith }
    checked_few checks None at answer done = absurd done
    checked_few checks (Some side) at answer lost =
        subst (λ (said : Answer). New (notes.checked later said)) (sym lost)
        (let a = rows in let b = is.fits.few in let c = lost_one side at in let d : checking was.step ≡ 1 = ap checking checks in let e = is.fits.some in
        let back = back_one plan (note_turns before) (struck_turns before) was.begun (omega (arith, b, d)) is.fits.begun (omega (arith, d, e)) in
        let f = back.0 in
        let g = back.1 in
        record { few = omega (arith, a, c, f); begun = g; some = omega arith })

    row_few : New (row_written row later entry.answer)
    row_few = by (is_checkpoint row) one.comes where
      by : (b : Bool) → Comes plan was b → New (cond b (notes.checked later entry.answer) (notes.beaten later entry.answer))
      by true comes = checked_few comes entry.side refl entry.answer one.written
      by false comes = beaten_few comes entry.side refl entry.answer one.written

    -- a plan without notes has none
    some_notes : plan.options.notes ≡ 0 → ⊥
    some_notes zero_notes = by (is_checkpoint row) one.comes where
      by : (b : Bool) → Comes plan was b → ⊥
      by true comes = let d : checking was.step ≡ 1 = ap checking comes in let e = is.fits.some in let f = is.fits.begun in absurd (never d e f) where
        never : checking was.step ≡ 1 → checking was.step ≤ was.begun → was.begun ≤ plan.options.notes → ⊥
        never d e f = omega (arith, d, e, f, zero_notes)
      by false comes = absurd (never comes) where
        never : was.begun < plan.options.notes → ⊥
        never less = omega (arith, less, zero_notes)

  few_more : IsFew plan more
  unfolding noted
  few_more = by (turn_of entry.actor entry.asked) where
    by : Turn entry.actor entry.asked → IsFew plan more
    by (other_so other same) = other_few other (notes_more ∙ same later entry.answer)
    by (row_so table columns row drawn who asks) =
        let is_row : is_note entry ≡ true = ap (λ (a : Actor). same_actor a Insp && replaces entry.asked) who ∙ ap replaces asks in
        let one = goes table columns row drawn who asks in
        let then : notes_of more ≡ row_written row later entry.answer = notes_more ∙ ap (λ (a : Actor). notes.asked a entry.asked later entry.answer) who ∙ ap (λ (a : Asked). notes.asked Insp a later entry.answer) asks in
        record {
          fits = subst (Fits plan (note_turns more) (struck_turns more)) (sym then) (row_few row is_row one);
          none = λ zero_notes. absurd (some_notes row is_row one zero_notes);
        }

few_begins : (plan : PlanData) → IsFew plan []
unfolding notes_of
few_begins plan = record { fits = record { few = omega arith; begun = omega arith; some = omega arith }; none = λ zero_notes. refl }

-- *Notes are few*
pub notes_few : NotesAreFew
unfolding measures
notes_few plan journal planned goes = by (plan.options.notes == 0) refl where
  is : IsFew plan journal
  is = Along-keeps (NoteGoes plan) (IsFew plan) (λ before entry one is. few_more plan before entry one is) [] journal goes (few_begins plan)

  none_of : (n : ℕ) → (n == 0) ≡ true → n ≡ 0
  none_of n same = grind (arith, nat_tests, same)

  by : (b : Bool) → (plan.options.notes == 0) ≡ b → note_turns journal ≤ 2 * cond b 0 (plan.options.notes + length plan.faults)
  by true same = let none = is.none (none_of plan.options.notes same) in omega (arith, none)
  by false some =
      let few = is.fits.few in
      let begun = is.fits.begun in
      let struck = losses_strike plan journal planned in
      omega (arith, few, begun, struck)
