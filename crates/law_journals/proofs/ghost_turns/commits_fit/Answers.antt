use Rattle.proof_journals.proofs.Ghost.Changing.{same_change}
use Rattle.proof_journals.proofs.Ghost.Placed.{commits_fit}
use Rattle.law_journals.proofs.ghost_turns.commits_fit.Goals as goal

pub returns-clause-changes : goal.returns-clause-changes
returns-clause-changes c = same_change

pub returns-clause-commits : goal.returns-clause-commits
returns-clause-commits c = commits_fit
