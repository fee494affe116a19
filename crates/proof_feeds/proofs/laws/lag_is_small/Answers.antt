use Rattle.proof_feeds.proofs.Reading.{lag_is_small}
use Rattle.proof_feeds.proofs.laws.lag_is_small.Goals as goal

pub returns : goal.returns
returns c = lag_is_small
