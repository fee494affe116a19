use Rattle.proof_migration.proofs.Reverted.{kept_serial}
use Rattle.law_journals.proofs.reverts.kept_journals_are_serial.Goals as goal

pub returns : goal.returns
returns c = kept_serial c.alterable_plans_are_runnable.ensures c.marked_journals_are_serial.ensures c.renames_come_once.ensures c.renames_find_the_altered.ensures
