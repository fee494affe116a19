use Rattle.proof_resume.proofs.Finish.Bounds.{finishes_are_few}
use Rattle.proof_resume.proofs.finish_laws.finishes_are_few.Goals as goal

pub returns : goal.returns
returns c = finishes_are_few
