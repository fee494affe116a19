use Rattle.proof_journals.proofs.Machine.Calling.{machines_stand}
use Rattle.law_journals.proofs.machines.machines_stand.Goals as goal

pub returns : goal.returns
returns c = machines_stand
