use Rattle.proof_bounds.proofs.Guards.{sentries_made}
use Rattle.law_journals.proofs.bounds.sentries_are_made_at_once.Goals as goal

pub returns : goal.returns
returns c = sentries_made
