use Rattle.proof_migration.proofs.Attempt.Standing.{all_wait}
use Rattle.law_journals.proofs.attempts.attempts_wait.Goals as goal

pub returns : goal.returns
returns c = all_wait
