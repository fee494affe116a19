use Rattle.std.proofs.Common.{Bool, ap, ◌∙◌, subst}
use Rattle.tool_finish.specs.Finishes.{is_over}
use Rattle.run_finish.specs.Invariants.{run_of, turns_in, IsStageAt}
use Rattle.run_finish.proofs.Staging.{over_is}
use Rattle.run_finish.proofs.finish_state.FinishState.ended.Goals as goal

pub returns-then-self : goal.returns-then-self
returns-then-self c =
    let self = c.args.self.now in
    c.ends.ensures ∙ over_is self.plan.now (run_of self) (turns_in self) self.stage (subst (λ (b : Bool). IsStageAt self.plan.now (run_of self) (turns_in self) b self.stage) c.if-self.true c.requires)

pub returns-else-self : goal.returns-else-self
returns-else-self c =
    let self = c.args.self.now in
    c.is_over.ensures ∙ ap is_over (subst (λ (b : Bool). IsStageAt self.plan.now (run_of self) (turns_in self) b self.stage) c.if-self.false c.requires)
