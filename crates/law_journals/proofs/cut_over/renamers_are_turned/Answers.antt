use Rattle.proof_migration.proofs.Program.LockerTurns.Renamers.{renamers_turned}
use Rattle.law_journals.proofs.cut_over.renamers_are_turned.Goals as goal

pub returns : goal.returns
returns c = renamers_turned c.entries_are_turns.ensures
