use Rattle.proof_migration.proofs.Once.Whole.{come_once}
use Rattle.law_journals.proofs.cut_over.renames_come_once.Goals as goal

pub returns : goal.returns
returns c = come_once c.definitions_are_done.ensures
