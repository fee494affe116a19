use Rattle.proof_plans.proofs.ReadPlans.Plans.{attempts_drain}
use Rattle.proof_plans.proofs.ReadPlans.Stated.{read_worded}
use Rattle.law_journals.proofs.plans.read_plans_are_worded.Goals as goal

pub returns : goal.returns
returns c = record { worded = read_worded; drain = attempts_drain }
