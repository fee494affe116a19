use Rattle.proof_resume.proofs.Finish.Callable.{finishes_may_call}
use Rattle.proof_resume.proofs.Finish.Leaving.{runs_leave_tables}
use Rattle.proof_resume.proofs.finish_laws.finishes_may_call.Goals as goal

pub returns-clause-calls : goal.returns-clause-calls
returns-clause-calls c = finishes_may_call

pub returns-clause-tables : goal.returns-clause-tables
returns-clause-tables c = runs_leave_tables
