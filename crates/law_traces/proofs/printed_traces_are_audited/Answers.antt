use Rattle.law_traces.proofs.PrintedWholes.{printed_audited}
use Rattle.law_traces.proofs.printed_traces_are_audited.Goals as goal

pub returns : goal.returns
returns c = printed_audited c.whole_printed_traces_are_audited.ensures
