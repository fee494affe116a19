use Rattle.proof_bounds.proofs.AttemptTurns.Calls.{attempts_go}
use Rattle.law_journals.proofs.bounds.attempts_go_on.Goals as goal

pub returns : goal.returns
returns c = attempts_go
