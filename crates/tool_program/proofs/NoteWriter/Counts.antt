-- One turn more, and that the notes' numbers are at most that of the turns.
use Rattle.std.proofs.Common.{◌≡◌, ℕ, ◌+◌, ◌≤◌, Bool, true, false, List, [], ◌∷◌, ◌++◌, length, arith}
use Rattle.std.specs.Prelude.{fold, if◌then◌else◌}
use Rattle.std.proofs.lemmas.List.Sums.{fold-append}
use Rattle.base_values.specs.declared.value.Value.{Value}
use Rattle.base_script.specs.declared.actor.Actor.{Actor}
use Rattle.base_script.specs.declared.actor.Actor.TheVariants.{Insp}
use Rattle.base_script.specs.declared.statement.Statement.TheVariants as statements
use Rattle.server_model.specs.declared.answer.Answer.{Answer}
use Rattle.server_model.specs.declared.answer.Answer.TheVariants as answers
use Rattle.server_model.specs.declared.entry.Entry.{Entry}
use Rattle.server_model.specs.declared.entry.Asked.{Asked}
use Rattle.server_model.specs.declared.entry.Asked.TheVariants.{Call}
use Rattle.server_model.specs.declared.request.Request.{Request}
use Rattle.server_model.specs.declared.request.Request.TheVariants as requests
use Rattle.tool_program.specs.declared.note_writer.notes.Notes.{Notes}
use Rattle.tool_program.specs.NoteWriter.Notes.{new_notes, beaten, checked, is_checkpoint, row_written, called, asked, noted, notes_of}

-- the notes after one turn more of a journal
pub more : (journal : List Entry) (entry : Entry) → notes_of (journal ++ entry ∷ []) ≡ noted (notes_of journal) entry
unfolding notes_of
more journal entry = fold-append noted new_notes journal (entry ∷ [])

-- at most one more is begun, and no more turns stand behind
abbrev IsNear : Notes → Notes → Type 0
IsNear before after = (after.begun ≤ before.begun + 1) × (after.behind ≤ before.behind)

still : (notes : Notes) → IsNear notes notes
still notes = (omega (arith), omega (arith))

beaten_near : (notes : Notes) (answer : Answer) → IsNear notes (beaten notes answer)
beaten_near notes (answers.Ok count) = (omega (arith), omega (arith))
beaten_near notes answers.Lost = (omega (arith), omega (arith))
beaten_near notes answer = still notes

checked_near : (notes : Notes) (answer : Answer) → IsNear notes (checked notes answer)
checked_near notes (answers.Ok count) = (omega (arith), omega (arith))
checked_near notes answers.Lost = (omega (arith), omega (arith))
checked_near notes answer = still notes

row_near : (row : List Value) (notes : Notes) (answer : Answer) → IsNear notes (row_written row notes answer)
row_near row notes answer = by (is_checkpoint row)
  where
    by : (checks : Bool) → IsNear notes (if checks then checked notes answer else beaten notes answer)
    by true = checked_near notes answer
    by false = beaten_near notes answer

called_near : (request : Request) (notes : Notes) (answer : Answer) → IsNear notes (called request notes answer)
called_near (requests.Do (statements.Replace table columns row drawn)) notes answer = row_near row notes answer
called_near request notes answer = still notes

asked_near : (actor : Actor) (what : Asked) (notes : Notes) (answer : Answer) → IsNear notes (asked actor what notes answer)
asked_near Insp (Call request) notes answer = called_near request notes answer
asked_near actor what notes answer = still notes

-- the numbers are at most those before and one for each turn
abbrev AreWithin : ℕ → Notes → Notes → Type 0
AreWithin turns before after = (after.begun ≤ before.begun + turns) × (after.behind ≤ before.behind + turns)

noted_near : (notes : Notes) (entry : Entry) → AreWithin 1 notes (noted notes entry)
unfolding noted
noted_near notes entry = asked_near entry.actor entry.asked (record notes { behind = notes.behind + 1 }) entry.answer

all_within : (notes : Notes) (journal : List Entry) → AreWithin (length journal) notes (fold noted notes journal)
all_within notes [] = (omega (arith), omega (arith))
all_within notes (entry ∷ journal) =
    let first = noted_near notes entry in let others = all_within (noted notes entry) journal in
    (omega (arith, first.0, others.0), omega (arith, first.1, others.1))

pub begun_few : (journal : List Entry) → (notes_of journal).begun ≤ length journal
unfolding notes_of
begun_few journal = omega (arith, (all_within new_notes journal).0)

pub behind_few : (journal : List Entry) → (notes_of journal).behind ≤ length journal
unfolding notes_of
behind_few journal = omega (arith, (all_within new_notes journal).1)
