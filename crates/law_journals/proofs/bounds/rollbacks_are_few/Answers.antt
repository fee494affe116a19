use Rattle.proof_bounds.proofs.Rollbacks.{rollbacks_few}
use Rattle.law_journals.proofs.bounds.rollbacks_are_few.Goals as goal

pub returns : goal.returns
returns c = rollbacks_few
