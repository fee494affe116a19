use Rattle.proof_bounds.proofs.Volumes.ChunkCounts.{chunks_few}
use Rattle.law_journals.proofs.volumes.chunks_are_few.Goals as goal

pub returns : goal.returns
returns c = chunks_few
