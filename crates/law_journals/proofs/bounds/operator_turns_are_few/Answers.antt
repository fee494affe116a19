use Rattle.proof_bounds.proofs.Operators.{operator_few}
use Rattle.law_journals.proofs.bounds.operator_turns_are_few.Goals as goal

pub returns : goal.returns
returns c = operator_few
