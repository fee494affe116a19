use Rattle.law_traces.proofs.Names.{one_line}
use Rattle.law_traces.proofs.names_are_one_line.Goals as goal

pub returns : goal.returns
returns c = one_line c.read_plans_are_accepted.ensures c.read_plans_are_runnable.ensures
