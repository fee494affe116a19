use Rattle.proof_migration.proofs.ToolPhase.Waits.Reported.{all_reported}
use Rattle.law_journals.proofs.sessions.waits_are_reported.Goals as goal

pub returns : goal.returns
returns c = record { reported = all_reported }
