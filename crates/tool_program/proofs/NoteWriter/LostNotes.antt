-- Of a row that was lost before it was written the journal keeps whether it was a note's, and whose.
use Rattle.std.proofs.Common.{◌≡◌, pos, Bool, List, [], ◌∷◌, Some, refl, sym, ap, ◌∙◌}
use Rattle.std.specs.Prelude.{if◌then◌else◌}
use Rattle.base_values.specs.declared.value.Value.{Value}
use Rattle.base_values.specs.declared.value.Value.TheVariants.{Num}
use Rattle.base_script.specs.declared.statement.Statement.TheVariants as statements
use Rattle.server_model.specs.declared.answer.Answer.{Answer}
use Rattle.server_model.specs.declared.lost_calls.LostCall.TheVariants.{Replace, Other}
use Rattle.server_model.specs.declared.request.Request.{Request}
use Rattle.server_model.specs.declared.request.Request.TheVariants as requests
use Rattle.server_model.specs.LostCalls.{begins_with_zero, lost_of}
use Rattle.tool_program.specs.declared.note_writer.notes.Notes.{Notes}
use Rattle.tool_program.specs.NoteWriter.Notes.{beaten, called, checked, is_checkpoint}

-- a checkpoint's row is the one that begins with 0
same_zero : (row : List Value) → is_checkpoint row ≡ begins_with_zero row
same_zero (Num (pos number) ∷ row) = refl
same_zero row = refl

-- such a call is a note's row
pub lost_note : (request : Request) (notes : Notes) (answer : Answer) (checks : Bool) → lost_of request ≡ Some (Replace checks)
    → called request notes answer ≡ (if checks then checked notes answer else beaten notes answer)
lost_note (requests.Do (statements.Replace table columns row drawn)) notes answer checks is =
    let same : begins_with_zero row ≡ checks = cc in
    ap (λ (b : Bool). if b then checked notes answer else beaten notes answer) (same_zero row ∙ same)
lost_note request notes answer checks is = absurd (cc)

-- another call is none
pub lost_other : (request : Request) (notes : Notes) (answer : Answer) → lost_of request ≡ Some Other → called request notes answer ≡ notes
lost_other (requests.Do (statements.Replace table columns row drawn)) notes answer is = absurd (cc)
lost_other request notes answer is = refl
