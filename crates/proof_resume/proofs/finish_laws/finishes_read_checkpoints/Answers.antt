use Rattle.proof_resume.proofs.Finish.Readings.{finishes_read_checkpoints}
use Rattle.proof_resume.proofs.finish_laws.finishes_read_checkpoints.Goals as goal

pub returns : goal.returns
returns c = finishes_read_checkpoints
