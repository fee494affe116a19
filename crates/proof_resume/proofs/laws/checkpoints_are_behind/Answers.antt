use Rattle.proof_resume.proofs.Reached.LastCheckpoints.{checkpoints_are_behind}
use Rattle.proof_resume.proofs.laws.checkpoints_are_behind.Goals as goal

pub returns : goal.returns
returns c = checkpoints_are_behind
