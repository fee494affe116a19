use Rattle.proof_resume.proofs.Settled.Checkpoints.{checkpoints_settle}
use Rattle.proof_resume.proofs.Settled.Resuming.{resumes_start}
use Rattle.proof_resume.proofs.laws.resumes_start.Goals as goal

pub returns : goal.returns
returns c = record { settled = checkpoints_settle; start = resumes_start }
