use Rattle.proof_resume.proofs.Reached.ChunkEnds.{ends_stay_above}
use Rattle.proof_resume.proofs.laws.ends_stay_above.Goals as goal

pub returns : goal.returns
returns c = ends_stay_above
