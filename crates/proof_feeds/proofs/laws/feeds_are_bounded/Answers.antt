use Rattle.proof_feeds.proofs.Reading.{feeds_are_bounded}
use Rattle.proof_feeds.proofs.laws.feeds_are_bounded.Goals as goal

pub returns : goal.returns
returns c = feeds_are_bounded
