use Rattle.std.proofs.Common.{Bool, Some, sym, ap, ◌∙◌}
use Rattle.std.specs.Prelude.{is_some}
use Rattle.server_model.specs.LostCalls.{lost_of}
use Rattle.server_model.specs.declared.lost_calls.LostCall.TheVariants.{Replace}
use Rattle.tool_changelog.specs.declared.checkpoint.Reach.{Reach}
use Rattle.tool_changelog.specs.Checkpoints.{checkpoint_value}
use Rattle.tool_program.specs.NoteWriter.NoteRows.{asked_in}
use Rattle.tool_program.specs.Programs.{checkpoint_in, reach_in}
use Rattle.tool_program.specs.declared.note_writer.notes.NoteRow.{NoteRow}
use Rattle.tool_state.specs.ToolState.Meanings.{work_of}
use Rattle.tool_state.proofs.LostCalls.{lost_checkpoint, lost_heartbeat}
use Rattle.tool_state.proofs.note_calls.note_lost.Goals as goal

pub returns-in-Checkpoint : goal.returns-in-Checkpoint
returns-in-Checkpoint c = λ plan.
    let work = work_of c.args.work.now in
    ap (λ (b : Bool). Some (Replace b)) (c.is_short.ensures ∙ ap (λ (reach : Reach). is_some (checkpoint_value work.applier.position reach)) c.reach.ensures)
    ∙ lost_checkpoint plan work.applier.position (reach_in c.args.journal.now work.copier)
    ∙ sym (ap (λ (row : NoteRow). lost_of (asked_in plan (checkpoint_in c.args.journal.now work) row)) c.in-Checkpoint.is)

pub returns-in-Heartbeat : goal.returns-in-Heartbeat
returns-in-Heartbeat c = λ plan.
    let checkpoint = checkpoint_in c.args.journal.now (work_of c.args.work.now) in
    lost_heartbeat plan checkpoint c.in-Heartbeat.field-0 ∙ sym (ap (λ (row : NoteRow). lost_of (asked_in plan checkpoint row)) c.in-Heartbeat.is)
