use Rattle.proof_journals.proofs.Ghost.Turns.{writes_fit}
use Rattle.law_journals.proofs.ghost_turns.writes_fit.Goals as goal

pub returns : goal.returns
returns c = writes_fit
