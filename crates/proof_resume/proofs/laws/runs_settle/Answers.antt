use Rattle.proof_resume.proofs.Settled.Reverting.{kept_runs_settle}
use Rattle.proof_resume.proofs.laws.runs_settle.Goals as goal

pub returns : goal.returns
returns c = kept_runs_settle
