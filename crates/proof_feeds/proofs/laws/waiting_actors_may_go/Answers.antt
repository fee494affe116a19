use Rattle.proof_feeds.proofs.Holding.{waiting_actors_may_go}
use Rattle.proof_feeds.proofs.laws.waiting_actors_may_go.Goals as goal

pub returns : goal.returns
returns c = waiting_actors_may_go
