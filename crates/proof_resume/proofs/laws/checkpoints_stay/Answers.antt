use Rattle.proof_resume.proofs.Reached.Noting.{checkpoints_stay, notes_are_behind}
use Rattle.proof_resume.proofs.laws.checkpoints_stay.Goals as goal

pub returns-clause-noted : goal.returns-clause-noted
returns-clause-noted c = notes_are_behind

pub returns-clause-stays : goal.returns-clause-stays
returns-clause-stays c = checkpoints_stay
