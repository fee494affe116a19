use Rattle.proof_migration.proofs.Program.Holds.Live.{holds_live}
use Rattle.law_journals.proofs.sessions.holds_are_live.Goals as goal

pub returns : goal.returns
returns c = holds_live
