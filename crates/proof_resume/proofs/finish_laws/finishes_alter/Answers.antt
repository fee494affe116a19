use Rattle.proof_resume.proofs.Finish.Walks.{finishes_alter}
use Rattle.proof_resume.proofs.finish_laws.finishes_alter.Goals as goal

pub returns : goal.returns
returns c = finishes_alter
