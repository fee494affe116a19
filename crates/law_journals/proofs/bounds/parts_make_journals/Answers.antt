use Rattle.proof_bounds.proofs.Counting.{parts_make}
use Rattle.law_journals.proofs.bounds.parts_make_journals.Goals as goal

pub returns : goal.returns
returns c = parts_make
