use Rattle.proof_journals.proofs.Machine.Whole.{given_called}
use Rattle.law_journals.proofs.machines.given_calls_may_be_called.Goals as goal

pub returns : goal.returns
returns c = given_called
