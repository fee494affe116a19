use Rattle.proof_journals.proofs.Machine.Numbering.{sessions_numbered}
use Rattle.law_journals.proofs.machines.sessions_are_numbered.Goals as goal

pub returns : goal.returns
returns c = sessions_numbered
