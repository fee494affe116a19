-- How many rows of notes there are, as far as each comes in its turn, and is written or lost with the inspector's session.
use Rattle.std.specs.Prelude.{◌≡◌, ◌≤◌, ◌<◌, ◌*◌, ℕ, Bool, true, false, ◌&&◌, List, [], ◌∷◌, ◌++◌, count_by, Option, Some, None}
use Rattle.base_script.specs.declared.actor.Actor.TheVariants.{Insp}
use Rattle.base_script.specs.declared.actor.Side.{Side}
use Rattle.base_script.specs.declared.statement.Statement.TheVariants as statements
use Rattle.base_values.specs.declared.value.Value.{Value}
use Rattle.server_model.specs.Along.{Along}
use Rattle.server_model.specs.declared.answer.Answer.{Answer}
use Rattle.server_model.specs.declared.answer.Answer.TheVariants as answers
use Rattle.server_model.specs.declared.entry.Asked.{Asked}
use Rattle.server_model.specs.declared.entry.Asked.TheVariants.{Call}
use Rattle.server_model.specs.declared.entry.Entry.{Entry}
use Rattle.server_model.specs.declared.request.Request.TheVariants as requests
use Rattle.server_model.specs.Entries.{same_actor}
use Rattle.plan_data.specs.PlanData.{PlanData}
use Rattle.tool_program.specs.JournalWords.Bounds.{measures}
use Rattle.tool_program.specs.JournalWords.KeptPlans.{KeepsPlan}
use Rattle.tool_program.specs.NoteWriter.Notes.{is_checkpoint, notes_of}
use Rattle.tool_program.specs.declared.note_writer.notes.NoteStep.TheVariants.{Checking}
use Rattle.tool_program.specs.declared.note_writer.notes.Notes.{Notes}
use Rattle.proof_journals.specs.Machine.Runnable.{IsRunnable}
use Rattle.proof_journals.specs.Plans.{IsSerialPlan}
use Rattle.proof_journals.specs.Run.Kept.{IsKept}
use Rattle.proof_bounds.specs.AttemptTurns.Attempts.{IsOk, most_notes}

abbrev pub replaces : Asked → Bool
replaces (Call (requests.Do (statements.Replace table columns row drawn))) = true
replaces asked = false

-- the turn writes a row of a note: the inspector writes nothing else by REPLACE
abbrev pub is_note : Entry → Bool
is_note entry = same_actor entry.actor Insp && replaces entry.asked

-- *The rows of notes* in a journal, those that are lost too
abbrev pub note_turns : List Entry → ℕ
note_turns journal = count_by is_note journal

-- a checkpoint comes right after a heartbeat, and a heartbeat while fewer notes were begun than the plan asks for
abbrev pub Comes : PlanData → Notes → Bool → Type 0
Comes plan now true = now.step ≡ Checking
Comes plan now false = now.begun < plan.options.notes

-- it is done, or lost with the session
abbrev pub IsWritten : Option Side → Answer → Type 0
IsWritten None answer = IsOk answer
IsWritten (Some side) answer = answer ≡ answers.Lost

-- *A note's row goes on* so
pub record RowGoes (plan : PlanData) (before : List Entry) (entry : Entry) (row : List Value) : Type 0 where
  pub comes : Comes plan (notes_of before) (is_checkpoint row)
  pub written : IsWritten entry.side entry.answer

abbrev pub NoteGoes : PlanData → List Entry → Entry → Type 0
NoteGoes plan before entry =
    (table : List ℕ) (columns : Option (List (List ℕ))) (row : List Value) (drawn : Option ℕ) → entry.actor ≡ Insp → entry.asked ≡ Call (requests.Do (statements.Replace table columns row drawn)) → RowGoes plan before entry row

-- *Notes are few*: where each row goes on so, a journal that keeps its plan has at most two rows for each note that may be begun, a
-- heartbeat and a checkpoint
abbrev pub NotesAreFew : Type 0
NotesAreFew = (plan : PlanData) (journal : List Entry) → KeepsPlan plan journal → Along (NoteGoes plan) [] journal → note_turns journal ≤ 2 * (measures plan).notes

-- *Notes go on* so in every journal that is kept
abbrev pub NotesGoOn : Type 0
NotesGoOn = (plan : PlanData) (before : List Entry) (entry : Entry) → plan.options.notes ≤ most_notes → IsRunnable plan → IsSerialPlan plan → IsKept plan (before ++ entry ∷ []) → NoteGoes plan before entry
