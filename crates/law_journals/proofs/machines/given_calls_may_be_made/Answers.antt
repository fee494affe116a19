use Rattle.proof_journals.proofs.Machine.Making.{given_may}
use Rattle.law_journals.proofs.machines.given_calls_may_be_made.Goals as goal

pub returns : goal.returns
returns c = given_may
