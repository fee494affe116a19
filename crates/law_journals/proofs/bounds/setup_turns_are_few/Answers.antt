use Rattle.proof_bounds.proofs.Setups.{setup_few}
use Rattle.law_journals.proofs.bounds.setup_turns_are_few.Goals as goal

pub returns : goal.returns
returns c = setup_few
