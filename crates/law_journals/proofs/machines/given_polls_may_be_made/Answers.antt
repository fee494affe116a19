use Rattle.proof_journals.proofs.Machine.Polling.{given_polls}
use Rattle.law_journals.proofs.machines.given_polls_may_be_made.Goals as goal

pub returns : goal.returns
returns c = given_polls
