use Rattle.std.proofs.Common.{subst}
use Rattle.top_endings.specs.declared.command.PlanCommand.TheVariants as plans
use Rattle.top_endings.specs.Endings.{took}
use Rattle.top_call.specs.Comings.{TellsPlan}
use Rattle.top_call.proofs.Comings.{run_comes}
use Rattle.top_call.proofs.Words.{allowed_workers}
use Rattle.top_call.proofs.top.outcome_of_line.Goals as goal

pub outcome_of_run-requires-after_bounds : goal.outcome_of_run-requires-after_bounds
outcome_of_run-requires-after_bounds g c κs within = allowed_workers c.args.line.now _ c.in-Err.ensures.workers

-- the source that the run was given is the one that the call began with
pub returns-in-Err-clause-comes : goal.returns-in-Err-clause-comes
returns-in-Err-clause-comes g c =
    run_comes c.args.line.now c.in-Err.workers _ _ _ _ c.in-Err.ensures.workers
    (subst
    (λ old. TellsPlan (plans.Run c.in-Err.workers) (took g.S.Source.left g.S.Source.faults old c.outcome_of_run.new.source) c.outcome_of_run.result.printed c.outcome_of_run.result.turns c.outcome_of_run.result.journal)
    c.in-Err.ensures.unmoved c.outcome_of_run.ensures.comes)
