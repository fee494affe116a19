use Rattle.proof_plans.proofs.ReadPlans.Stated.{plans_accepted}
use Rattle.law_journals.proofs.plans.read_plans_are_accepted.Goals as goal

pub returns : goal.returns
returns c = plans_accepted
