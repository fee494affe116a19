use Rattle.proof_feeds.proofs.Holding.{someone_may_go}
use Rattle.proof_feeds.proofs.laws.someone_may_go.Goals as goal

pub returns : goal.returns
returns c = someone_may_go
