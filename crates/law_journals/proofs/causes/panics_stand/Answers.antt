use Rattle.proof_migration.proofs.Attempt.Verdicts.Standing.{all_panics}
use Rattle.law_journals.proofs.causes.panics_stand.Goals as goal

pub returns : goal.returns
returns c = record { stands = all_panics }
