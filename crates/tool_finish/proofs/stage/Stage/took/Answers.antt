use Rattle.std.proofs.Common.{◌≡◌, false, ap, ◌∙◌}
use Rattle.tool_finish.specs.Finishes.{took}
use Rattle.tool_finish.specs.Stages.{wants_memory}
use Rattle.tool_finish.proofs.Holding.{none_wants}
use Rattle.tool_finish.proofs.stage.Stage.took.Goals as goal

pub returns-in_default : goal.returns-in_default
returns-in_default g c =
    let none = none_wants c.args.self.now c.in_default.not-Reading-0 c.in_default.not-Ranging-0 in
    record {
      stage = c.taken.ensures.stage (ap wants_memory c.replace-stage.ensures.value ∙ none) ∙ ap (took c.args.view.now.plan.now c.args.view.now.journal.now (g.V.Serve.state c.args.view.now.server.now) c.args.answer.now) c.replace-stage.ensures.value;
      still = tt;
    }
