use Rattle.proof_migration.proofs.Program.BatchTurns.Turns.{copiers_turned}
use Rattle.law_journals.proofs.cut_over.copiers_are_turned.Goals as goal

pub returns : goal.returns
returns c = copiers_turned c.entries_are_turns.ensures
