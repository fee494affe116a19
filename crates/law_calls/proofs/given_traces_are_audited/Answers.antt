use Rattle.law_calls.proofs.GivenTraces.{given_audited}
use Rattle.law_calls.proofs.given_traces_are_audited.Goals as goal

pub returns : goal.returns
returns c = given_audited c.whole_traces_are_audited.ensures c.whole_printed_traces_are_audited.ensures
