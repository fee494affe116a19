use Rattle.proof_audit.proofs.First.{lines_decide}
use Rattle.law_traces.proofs.lines_decide_tables.Goals as goal

pub returns : goal.returns
returns c = lines_decide
