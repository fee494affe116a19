use Rattle.proof_rebuild.proofs.Converting.{shard_conversions_join}
use Rattle.proof_rebuild.proofs.laws.shard_conversions_join.Goals as goal

pub returns : goal.returns
returns c = shard_conversions_join
