use Rattle.law_draws.proofs.LockedCounters.{locked_counters_stay}
use Rattle.law_draws.proofs.locked_counters_stay.Goals as goal

pub returns : goal.returns
returns c = locked_counters_stay
