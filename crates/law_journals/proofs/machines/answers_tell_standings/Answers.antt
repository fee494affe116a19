use Rattle.proof_journals.proofs.Machine.Calling.{answers_tell}
use Rattle.law_journals.proofs.machines.answers_tell_standings.Goals as goal

pub returns : goal.returns
returns c = answers_tell
