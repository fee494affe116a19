use Rattle.proof_resume.proofs.Finish.Batches.{applier_turns_are_few, reads_let_go_on}
use Rattle.proof_resume.proofs.finish_laws.applier_turns_are_few.Goals as goal

pub returns-clause-turns : goal.returns-clause-turns
returns-clause-turns c = applier_turns_are_few

pub returns-clause-reads : goal.returns-clause-reads
returns-clause-reads c = reads_let_go_on
