use Rattle.proof_feeds.proofs.Reading.{reads_stay_behind}
use Rattle.proof_feeds.proofs.laws.reads_stay_behind.Goals as goal

pub returns : goal.returns
returns c = reads_stay_behind
