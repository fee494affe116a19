use Rattle.proof_audit.proofs.Whole.{say_yes}
use Rattle.law_traces.proofs.audits_say_yes.Goals as goal

pub returns : goal.returns
returns c = say_yes
