use Rattle.proof_plans.proofs.ReadPlans.Plans.{plans_alterable}
use Rattle.proof_plans.proofs.ReadPlans.Stated.{plans_accepted, read_worded}
use Rattle.top_call.proofs.ReadTraces.{may_be_audited}
use Rattle.top_call.proofs.read_traces.read_traces_may_be_audited.Goals as goal

pub returns : goal.returns
returns c = may_be_audited c.alterable_plans_alter_tables.ensures (plans_alterable plans_accepted) read_worded
