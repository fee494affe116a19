use Rattle.proof_migration.proofs.Program.Hints.Known.{hints_known}
use Rattle.law_journals.proofs.hints.hints_are_known.Goals as goal

pub returns : goal.returns
returns c = hints_known
