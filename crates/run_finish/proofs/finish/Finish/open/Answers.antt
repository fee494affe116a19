use Rattle.std.proofs.Common.{sym, ◌∙◌, subst}
use Rattle.run_turns.specs.Runs.{RunView}
use Rattle.tool_finish.specs.Callable.{IsFinishable}
use Rattle.run_finish.proofs.finish.Finish.open.Goals as goal

pub opened-requires-clause-finishable : goal.opened-requires-clause-finishable
opened-requires-clause-finishable g c =
    subst (λ (run : RunView). IsFinishable run.plan run.journal) (sym c.prepared.ensures.same) (c.requires (sym c.has_checkpoint.ensures ∙ c.if-not-has_checkpoint.false))
