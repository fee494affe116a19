use Rattle.proof_audit.proofs.First.{name_the_first}
use Rattle.law_traces.proofs.audits_name_the_first.Goals as goal

pub returns : goal.returns
returns c = name_the_first
