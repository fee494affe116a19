use Rattle.proof_bounds.proofs.AttemptTurns.NoteTurns.{notes_go}
use Rattle.law_journals.proofs.bounds.notes_go_on.Goals as goal

pub returns : goal.returns
returns c = notes_go
