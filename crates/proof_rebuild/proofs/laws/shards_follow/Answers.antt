use Rattle.proof_rebuild.proofs.Following.{shards_follow}
use Rattle.proof_rebuild.proofs.laws.shards_follow.Goals as goal

pub returns : goal.returns
returns c = shards_follow
