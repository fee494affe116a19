use Rattle.proof_migration.proofs.Migration.Applier.Appliers.{appliers_keep}
use Rattle.law_journals.proofs.migration.appliers_keep.Goals as goal

pub returns : goal.returns
returns c = appliers_keep
