use Rattle.proof_resume.proofs.Settled.NewTable.{moves_settle, others_settle, relations_settle, settled_earlier}
use Rattle.proof_resume.proofs.laws.relations_settle.Goals as goal

pub returns : goal.returns
returns c = record { relations = relations_settle; earlier = settled_earlier; others = others_settle; moves = moves_settle }
