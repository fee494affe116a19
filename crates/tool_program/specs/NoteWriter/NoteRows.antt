-- Which row of a note is written next, and the call that it makes. (This project's rule.)
use Rattle.std.specs.Prelude.{Bool, true, false, List, [], unwrap_or, Option}
use Rattle.base_values.specs.declared.value.Value.{Value}
use Rattle.server_model.specs.declared.request.Request.{Request}
use Rattle.tool_changelog.specs.Heartbeats.{heartbeat_row}
use Rattle.plan_data.specs.PlanData.{PlanData}
use Rattle.tool_program.specs.declared.note_writer.notes.NoteStep.{NoteStep}
use Rattle.tool_program.specs.declared.note_writer.notes.NoteStep.TheVariants.{Checking}
use Rattle.tool_program.specs.declared.note_writer.notes.NoteRow.{NoteRow}
use Rattle.tool_program.specs.declared.note_writer.notes.NoteRow.TheVariants.{Heartbeat, Checkpoint}
use Rattle.tool_program.specs.NoteWriter.Notes.{writes}

abbrev pub is_checking : NoteStep → Bool
is_checking Checking = true
is_checking step = false

-- the values of the row, where this is the checkpoint's now; a checkpoint comes next only where it has one
abbrev pub row_of : Option (List Value) → NoteRow → List Value
row_of checkpoint (Heartbeat number) = heartbeat_row number
row_of checkpoint Checkpoint = unwrap_or checkpoint []

abbrev pub asked_in : PlanData → Option (List Value) → NoteRow → Request
asked_in plan checkpoint row = writes plan.table (row_of checkpoint row)
