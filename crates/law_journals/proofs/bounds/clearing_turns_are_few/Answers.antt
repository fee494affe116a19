use Rattle.proof_bounds.proofs.Clearings.{clearing_few}
use Rattle.law_journals.proofs.bounds.clearing_turns_are_few.Goals as goal

pub returns : goal.returns
returns c = clearing_few
