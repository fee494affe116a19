-- The row that is written next makes the call that comes next.
use Rattle.std.proofs.Common.{◌≡◌, true, false, List, Option, Some, None, refl}
use Rattle.std.specs.Prelude.{is_some}
use Rattle.base_values.specs.declared.value.Value.{Value}
use Rattle.plan_data.specs.PlanData.{PlanData}
use Rattle.tool_program.specs.declared.note_writer.notes.NoteStep.{NoteStep}
use Rattle.tool_program.specs.declared.note_writer.notes.NoteStep.TheVariants.{Waiting, Checking, Again}
use Rattle.tool_program.specs.declared.note_writer.notes.NoteRow.TheVariants.{Checkpoint}
use Rattle.tool_program.specs.declared.note_writer.notes.Notes.{Notes}
use Rattle.tool_program.specs.NoteWriter.Notes.{beats, checkpoint_next, row_or_beat, next}
use Rattle.tool_program.specs.NoteWriter.NoteRows.{asked_in}

pub checkpoint_is : (plan : PlanData) (notes : Notes) (row : Option (List Value)) → is_some (checkpoint_next notes.step row) ≡ true → next plan row notes ≡ Some (asked_in plan row Checkpoint)
unfolding next
checkpoint_is plan notes row is = by notes.step row is
  where
    by : (step : NoteStep) (row : Option (List Value)) → is_some (checkpoint_next step row) ≡ true → row_or_beat (checkpoint_next step row) plan notes ≡ Some (asked_in plan row Checkpoint)
    by Checking (Some row) is = refl
    by Checking None is = absurd cc
    by Waiting row is = absurd cc
    by Again row is = absurd cc

pub beat_is : (plan : PlanData) (notes : Notes) (row : Option (List Value)) → is_some (checkpoint_next notes.step row) ≡ false → next plan row notes ≡ beats plan notes
unfolding next
beat_is plan notes row is = by (checkpoint_next notes.step row) is
  where
    by : (due : Option (List Value)) → is_some due ≡ false → row_or_beat due plan notes ≡ beats plan notes
    by None is = refl
    by (Some row) is = absurd cc
