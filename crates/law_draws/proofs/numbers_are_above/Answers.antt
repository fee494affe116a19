use Rattle.law_draws.proofs.Numbers.{numbers_are_above}
use Rattle.law_draws.proofs.numbers_are_above.Goals as goal

pub returns : goal.returns
returns c = numbers_are_above
