use Rattle.proof_journals.proofs.Ghost.Rows.Steps.{ghost_is_the_altered}
use Rattle.law_journals.proofs.ghost_rows.ghosts_are_altered.Goals as goal

pub returns : goal.returns
returns c = ghost_is_the_altered
