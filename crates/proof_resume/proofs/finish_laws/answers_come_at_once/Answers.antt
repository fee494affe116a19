use Rattle.proof_resume.proofs.Finish.Prompt.{answers_come_at_once, finishes_keep_sessions}
use Rattle.proof_resume.proofs.finish_laws.answers_come_at_once.Goals as goal

pub returns-clause-calls : goal.returns-clause-calls
returns-clause-calls c = answers_come_at_once

pub returns-clause-sessions : goal.returns-clause-sessions
returns-clause-sessions c = finishes_keep_sessions
