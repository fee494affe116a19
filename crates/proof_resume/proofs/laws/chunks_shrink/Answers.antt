use Rattle.proof_resume.proofs.Reached.Shrinking.{chunks_shrink, ends_above, spans_above}
use Rattle.proof_resume.proofs.laws.chunks_shrink.Goals as goal

pub returns-clause-shrinks : goal.returns-clause-shrinks
returns-clause-shrinks c = chunks_shrink

pub returns-clause-ends : goal.returns-clause-ends
returns-clause-ends c = ends_above

pub returns-clause-spans : goal.returns-clause-spans
returns-clause-spans c = spans_above
