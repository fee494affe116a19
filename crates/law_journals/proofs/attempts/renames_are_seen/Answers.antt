use Rattle.proof_migration.proofs.Attempt.Renamed.Seen.{all_seen}
use Rattle.law_journals.proofs.attempts.renames_are_seen.Goals as goal

pub returns : goal.returns
returns c = all_seen
