use Rattle.proof_resume.proofs.Reached.Rising.{positions_rise}
use Rattle.proof_resume.proofs.laws.positions_rise.Goals as goal

pub returns : goal.returns
returns c = positions_rise
