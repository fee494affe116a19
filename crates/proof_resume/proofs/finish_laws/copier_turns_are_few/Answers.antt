use Rattle.proof_resume.proofs.Finish.Chunks.{copier_turns_are_few, new_copiers_have_few}
use Rattle.proof_resume.proofs.Finish.CopyAnswers.{copiers_go_on}
use Rattle.proof_resume.proofs.finish_laws.copier_turns_are_few.Goals as goal

pub returns-clause-turns : goal.returns-clause-turns
returns-clause-turns c = copier_turns_are_few

pub returns-clause-begins : goal.returns-clause-begins
returns-clause-begins c = new_copiers_have_few

pub returns-clause-goes : goal.returns-clause-goes
returns-clause-goes c = copiers_go_on
