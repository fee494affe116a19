use Rattle.proof_migration.proofs.Attempt.Verdicts.Standing.{all_spent}
use Rattle.law_journals.proofs.causes.spent_tasks_stand.Goals as goal

pub returns : goal.returns
returns c = record { stands = all_spent }
