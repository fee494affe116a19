use Rattle.proof_migration.proofs.Program.BatchTurns.Turns.{appliers_turned}
use Rattle.law_journals.proofs.cut_over.appliers_are_turned.Goals as goal

pub returns : goal.returns
returns c = appliers_turned c.entries_are_turns.ensures
