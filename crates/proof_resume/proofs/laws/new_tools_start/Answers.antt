use Rattle.proof_resume.proofs.Settled.NewTable.{settled_starts}
use Rattle.proof_resume.proofs.Settled.Starting.{new_tools_start, resumed_copies_alter}
use Rattle.proof_resume.proofs.laws.new_tools_start.Goals as goal

pub returns : goal.returns
returns c = record { settled = settled_starts; start = new_tools_start; altered = resumed_copies_alter }
