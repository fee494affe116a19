use Rattle.proof_resume.proofs.Reached.ChunkEnds.{left_shrinks}
use Rattle.proof_resume.proofs.laws.left_shrinks.Goals as goal

pub returns : goal.returns
returns c = left_shrinks
