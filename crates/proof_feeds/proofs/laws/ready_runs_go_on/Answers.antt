use Rattle.proof_feeds.proofs.GoingOn.{goes_on}
use Rattle.proof_feeds.proofs.laws.ready_runs_go_on.Goals as goal

pub returns : goal.returns
returns c = goes_on
