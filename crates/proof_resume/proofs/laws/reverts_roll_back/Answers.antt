use Rattle.proof_resume.proofs.Settled.RollingBack.{reverts_roll_back}
use Rattle.proof_resume.proofs.laws.reverts_roll_back.Goals as goal

pub returns : goal.returns
returns c = reverts_roll_back
