use Rattle.proof_plans.proofs.ReadPlans.Options.Allowed.{allowed}
use Rattle.law_journals.proofs.plans.read_options_allow.Goals as goal

pub returns : goal.returns
returns c = allowed
