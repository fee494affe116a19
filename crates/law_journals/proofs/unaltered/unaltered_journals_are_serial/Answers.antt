use Rattle.proof_migration.proofs.ToolPhase.Unaltered.Runs.{unaltered_serial}
use Rattle.law_journals.proofs.unaltered.unaltered_journals_are_serial.Goals as goal

pub returns : goal.returns
returns c = unaltered_serial
