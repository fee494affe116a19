-- *Notes*: rows of the changelog by which the tool tells, from time to time, how far it is. A note is a heartbeat and a checkpoint,
-- which the inspector writes one after the other while no attempt to exchange the tables stands; where the checkpoint has no row, it
-- is the heartbeat alone. A row of a note is a REPLACE into the changelog: it locks one row of a table that no client uses, so clients
-- go on meanwhile. How far the notes are is read off the journal: the inspector writes by REPLACE nothing but notes, and no row of a
-- note waits. (gh-ost's heartbeats and checkpoints, `subsecond-lag.md` and `resume.md`; when they come is this project's rule.)
use Rattle.std.specs.Prelude.{ℕ, ◌+◌, ◌-◌, ◌==◌, nat_lt, nat_le, pos, Bool, true, false, ◌&&◌, ◌||◌, if◌then◌else◌, List, ◌∷◌, fold, Option, Some, None}
use Rattle.base_values.specs.declared.value.Value.{Value}
use Rattle.base_values.specs.declared.value.Value.TheVariants.{Num}
use Rattle.base_values.specs.ToolNames.{log_name}
use Rattle.base_script.specs.declared.actor.Actor.{Actor}
use Rattle.base_script.specs.declared.actor.Actor.TheVariants.{Insp}
use Rattle.base_script.specs.declared.statement.Statement.TheVariants as statements
use Rattle.server_model.specs.declared.answer.Answer.{Answer}
use Rattle.server_model.specs.declared.answer.Answer.TheVariants as answers
use Rattle.server_model.specs.declared.entry.Entry.{Entry}
use Rattle.server_model.specs.declared.entry.Asked.{Asked}
use Rattle.server_model.specs.declared.entry.Asked.TheVariants.{Call}
use Rattle.server_model.specs.declared.request.Request.{Request}
use Rattle.server_model.specs.declared.request.Request.TheVariants as requests
use Rattle.tool_changelog.specs.Heartbeats.{heartbeat_row}
use Rattle.plan_data.specs.PlanData.{PlanData}
use Rattle.tool_program.specs.declared.note_writer.notes.NoteStep.{NoteStep}
use Rattle.tool_program.specs.declared.note_writer.notes.NoteStep.TheVariants.{Waiting, Checking, Again}
use Rattle.tool_program.specs.declared.note_writer.notes.Notes.{Notes}

abbrev pub new_notes : Notes
new_notes = record { begun = 0; behind = 0; step = Waiting }

-- WHAT IS WRITTEN NEXT

abbrev pub is_again : NoteStep → Bool
is_again Again = true
is_again step = false

-- the first note comes at once, and so does one that begins again; another, once there are so many turns behind the last row of the
-- note before it
abbrev pub may_beat : ℕ → ℕ → Notes → Bool
may_beat most every notes = nat_lt notes.begun most && (is_again notes.step || notes.begun == 0 || nat_le every notes.behind)

abbrev pub writes : List ℕ → List Value → Request
writes table row = requests.Do (statements.Replace (log_name table) None row None)

abbrev pub beats : PlanData → Notes → Option Request
beats plan notes = if may_beat plan.options.notes plan.options.note_every notes then Some (writes plan.table (heartbeat_row (notes.begun + 1))) else None

-- the checkpoint's row, where it comes next
abbrev pub checkpoint_next : NoteStep → Option (List Value) → Option (List Value)
checkpoint_next Checking row = row
checkpoint_next step row = None

abbrev pub row_or_beat : Option (List Value) → PlanData → Notes → Option Request
row_or_beat None plan notes = beats plan notes
row_or_beat (Some row) plan notes = Some (writes plan.table row)

-- *Next*: what is written where this is the row of a checkpoint now; none where nothing is.
unfoldable pub next : PlanData → Option (List Value) → Notes → Option Request
next plan row notes = row_or_beat (checkpoint_next notes.step row) plan notes

-- WHAT A TURN CHANGES

abbrev pub beaten : Notes → Answer → Notes
beaten notes (answers.Ok count) = record notes { begun = notes.begun + 1; behind = 0; step = Checking }
beaten notes answers.Lost = record notes { step = Again }
beaten notes answer = notes

-- a note whose checkpoint is lost begins again with its heartbeat
abbrev pub checked : Notes → Answer → Notes
checked notes (answers.Ok count) = record notes { behind = 0; step = Waiting }
checked notes answers.Lost = record notes { begun = notes.begun - 1; step = Again }
checked notes answer = notes

-- a checkpoint's id is 0
abbrev pub is_checkpoint : List Value → Bool
is_checkpoint (Num (pos id) ∷ row) = id == 0
is_checkpoint row = false

abbrev pub row_written : List Value → Notes → Answer → Notes
row_written row notes answer = if is_checkpoint row then checked notes answer else beaten notes answer

abbrev pub called : Request → Notes → Answer → Notes
called (requests.Do (statements.Replace table columns row drawn)) notes answer = row_written row notes answer
called request notes answer = notes

abbrev pub asked : Actor → Asked → Notes → Answer → Notes
asked Insp (Call request) notes answer = called request notes answer
asked actor what notes answer = notes

-- the notes after one turn more
unfoldable pub noted : Notes → Entry → Notes
noted notes entry = asked entry.actor entry.asked (record notes { behind = notes.behind + 1 }) entry.answer

-- *Notes so far*: how many were begun in these turns, how many turns stand behind the last row, and which row comes next.
unfoldable pub notes_of : List Entry → Notes
notes_of journal = fold noted new_notes journal
