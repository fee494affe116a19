use Rattle.law_traces.proofs.Accepted.{kept_audited}
use Rattle.law_traces.proofs.traces_are_audited.Goals as goal

pub returns : goal.returns
returns c = kept_audited c.whole_traces_are_audited.ensures
