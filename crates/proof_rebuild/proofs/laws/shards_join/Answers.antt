use Rattle.proof_rebuild.proofs.Joining.{shards_join}
use Rattle.proof_rebuild.proofs.laws.shards_join.Goals as goal

pub returns : goal.returns
returns c = shards_join
