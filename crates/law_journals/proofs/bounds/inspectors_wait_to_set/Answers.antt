use Rattle.proof_bounds.proofs.Going.{waits_to_set}
use Rattle.law_journals.proofs.bounds.inspectors_wait_to_set.Goals as goal

pub returns : goal.returns
returns c = waits_to_set
