use Rattle.law_traces.proofs.Accepted.{wholes_audited}
use Rattle.law_traces.proofs.whole_traces_are_audited.Goals as goal

pub returns : goal.returns
returns c = wholes_audited c.accepted_plans_stand.ensures
