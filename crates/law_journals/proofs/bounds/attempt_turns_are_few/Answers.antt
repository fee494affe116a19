use Rattle.proof_bounds.proofs.AttemptTurns.Attempts.{attempt_turns_few}
use Rattle.law_journals.proofs.bounds.attempt_turns_are_few.Goals as goal

pub returns : goal.returns
returns c = attempt_turns_few
