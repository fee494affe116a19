use Rattle.law_draws.proofs.ColumnValues.{values_stay_below}
use Rattle.law_draws.proofs.values_stay_below.Goals as goal

pub returns : goal.returns
returns c = values_stay_below
