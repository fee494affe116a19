use Rattle.std.proofs.Common.{sym, ap, ◌∙◌}
use Rattle.std.specs.Prelude.{is_some}
use Rattle.tool_changelog.specs.declared.checkpoint.Reach.{Reach}
use Rattle.tool_changelog.specs.Checkpoints.{checkpoint_value}
use Rattle.tool_program.specs.Programs.{reach_in}
use Rattle.tool_state.specs.ToolState.Meanings.{work_of}
use Rattle.tool_state.proofs.CallFacts.{checkpoint_due}
use Rattle.tool_state.proofs.tool_view.ToolView.has_checkpoint.Goals as goal

pub returns-then-is_checking : goal.returns-then-is_checking
returns-then-is_checking g c =
    let work = work_of c.args.self.now.tool.now.work in
    c.is_short.ensures
    ∙ ap (λ (reach : Reach). is_some (checkpoint_value work.applier.position reach)) c.reach.ensures
    ∙ sym (checkpoint_due c.args.self.now.notes.step work.applier.position (reach_in c.args.self.now.journal.now work.copier) (sym c.is_checking.ensures ∙ c.if-is_checking.true))
