use Rattle.proof_migration.proofs.ToolPhase.Owners.{all_owned}
use Rattle.law_journals.proofs.sessions.sessions_are_owned.Goals as goal

pub returns : goal.returns
returns c = all_owned
