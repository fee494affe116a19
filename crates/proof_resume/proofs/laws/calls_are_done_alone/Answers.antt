use Rattle.proof_resume.proofs.Settled.Alone.{calls_are_done_alone}
use Rattle.proof_resume.proofs.laws.calls_are_done_alone.Goals as goal

pub returns : goal.returns
returns c = calls_are_done_alone
