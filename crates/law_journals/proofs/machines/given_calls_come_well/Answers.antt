use Rattle.proof_journals.proofs.Machine.Calling.{given_calls}
use Rattle.law_journals.proofs.machines.given_calls_come_well.Goals as goal

pub returns : goal.returns
returns c = given_calls
