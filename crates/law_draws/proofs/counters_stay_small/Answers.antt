use Rattle.law_draws.proofs.SmallNumbers.{counters_stay_small}
use Rattle.law_draws.proofs.counters_stay_small.Goals as goal

pub returns : goal.returns
returns c = counters_stay_small
