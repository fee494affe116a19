use Rattle.proof_plans.proofs.ReadPlans.Plans.{plans_runnable}
use Rattle.law_journals.proofs.plans.read_plans_are_runnable.Goals as goal

pub returns : goal.returns
returns c = plans_runnable c.read_plans_are_serial.ensures.alterable c.read_plans_are_worded.ensures.worded c.alterable_plans_are_runnable.ensures
