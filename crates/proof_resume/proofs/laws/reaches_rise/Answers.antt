use Rattle.proof_resume.proofs.Reached.Copying.{reaches_rise}
use Rattle.proof_resume.proofs.laws.reaches_rise.Goals as goal

pub returns : goal.returns
returns c = reaches_rise
