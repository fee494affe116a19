use Rattle.proof_rebuild.proofs.Unfit.{shards_find_unfit}
use Rattle.proof_rebuild.proofs.laws.shards_find_unfit.Goals as goal

pub returns : goal.returns
returns c = shards_find_unfit
