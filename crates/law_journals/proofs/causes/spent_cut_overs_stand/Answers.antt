use Rattle.proof_migration.proofs.Attempt.Causes.Spent.{all_spent_attempts}
use Rattle.law_journals.proofs.causes.spent_cut_overs_stand.Goals as goal

pub returns : goal.returns
returns c = all_spent_attempts
