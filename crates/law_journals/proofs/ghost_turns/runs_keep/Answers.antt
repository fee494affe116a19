use Rattle.proof_journals.proofs.Ghost.Running.{runs_keep}
use Rattle.law_journals.proofs.ghost_turns.runs_keep.Goals as goal

pub returns : goal.returns
returns c = runs_keep
