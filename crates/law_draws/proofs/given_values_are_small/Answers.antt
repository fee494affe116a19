use Rattle.law_draws.proofs.SmallNumbers.{given_values_are_small}
use Rattle.law_draws.proofs.given_values_are_small.Goals as goal

pub returns : goal.returns
returns c = given_values_are_small
