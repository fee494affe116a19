use Rattle.proof_feeds.proofs.Holding.{nobody_is_held_without}
use Rattle.proof_feeds.proofs.laws.nobody_is_held_without.Goals as goal

pub returns : goal.returns
returns c = nobody_is_held_without
