use Rattle.proof_resume.proofs.Finish.Marks.{finishes_alter_once}
use Rattle.proof_resume.proofs.finish_laws.finishes_alter_once.Goals as goal

pub returns : goal.returns
returns c = finishes_alter_once
