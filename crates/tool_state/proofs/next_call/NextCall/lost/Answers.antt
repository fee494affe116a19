use Rattle.std.proofs.Common.{sym, ap, ◌∙◌}
use Rattle.server_model.specs.LostCalls.{lost_in}
use Rattle.tool_state.specs.NextCalls.{asked_in}
use Rattle.tool_state.specs.declared.next_call.NextCall.{NextCall}
use Rattle.tool_state.specs.ToolState.Meanings.{work_of}
use Rattle.tool_state.proofs.next_call.NextCall.lost.Goals as goal

pub returns-in-Note : goal.returns-in-Note
returns-in-Note c = λ plan. c.note_lost.ensures plan ∙ sym (ap (λ (call : NextCall). lost_in (asked_in plan c.args.journal.now (work_of c.args.work.now) call)) c.in-Note.is)
