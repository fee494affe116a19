use Rattle.proof_resume.proofs.Finish.Starts.{ranges_are_now}
use Rattle.proof_resume.proofs.finish_laws.ranges_are_now.Goals as goal

pub returns : goal.returns
returns c = ranges_are_now
