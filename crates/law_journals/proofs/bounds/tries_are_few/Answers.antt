use Rattle.proof_bounds.proofs.Tries.{tries_few}
use Rattle.law_journals.proofs.bounds.tries_are_few.Goals as goal

pub returns : goal.returns
returns c = tries_few
