use Rattle.proof_resume.proofs.Finish.Counts.{other_turns_are_few}
use Rattle.proof_resume.proofs.finish_laws.other_turns_are_few.Goals as goal

pub returns : goal.returns
returns c = other_turns_are_few
