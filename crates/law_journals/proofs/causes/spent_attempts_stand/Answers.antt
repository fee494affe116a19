use Rattle.proof_migration.proofs.Attempt.Verdicts.Standing.{all_attempts}
use Rattle.law_journals.proofs.causes.spent_attempts_stand.Goals as goal

pub returns : goal.returns
returns c = record { stands = all_attempts }
