use Rattle.proof_bounds.proofs.TaskTurns.Chunks.{chunk_few, chunk_none}
use Rattle.law_journals.proofs.bounds.chunk_turns_are_few.Goals as goal

pub returns : goal.returns
returns c = record { few = chunk_few; none = chunk_none }
