use Rattle.proof_journals.proofs.Machine.Whole.{given_polled}
use Rattle.law_journals.proofs.machines.given_polls_may_be_called.Goals as goal

pub returns : goal.returns
returns c = given_polled
