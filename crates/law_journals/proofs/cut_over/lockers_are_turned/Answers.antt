use Rattle.proof_migration.proofs.Program.LockerTurns.Lockers.{lockers_turned}
use Rattle.law_journals.proofs.cut_over.lockers_are_turned.Goals as goal

pub returns : goal.returns
returns c = lockers_turned c.entries_are_turns.ensures c.definitions_are_done.ensures c.exclusive_is_alone.ensures c.locks_are_taken.ensures
