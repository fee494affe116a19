use Rattle.proof_bounds.proofs.Attempts.{attempts_few}
use Rattle.law_journals.proofs.bounds.attempts_are_few.Goals as goal

pub returns : goal.returns
returns c = attempts_few
