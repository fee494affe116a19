use Rattle.proof_plans.proofs.ReadPlans.Plans.{scripts_end}
use Rattle.law_journals.proofs.plans.read_scripts_end.Goals as goal

pub returns : goal.returns
returns c = scripts_end
