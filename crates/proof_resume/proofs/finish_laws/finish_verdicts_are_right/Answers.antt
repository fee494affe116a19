use Rattle.proof_resume.proofs.Finish.Verdicts.{done_finishes_altered, reverted_finishes_did_not}
use Rattle.proof_resume.proofs.finish_laws.finish_verdicts_are_right.Goals as goal

pub returns-clause-done : goal.returns-clause-done
returns-clause-done c = done_finishes_altered

pub returns-clause-reverted : goal.returns-clause-reverted
returns-clause-reverted c = reverted_finishes_did_not
