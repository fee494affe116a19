use Rattle.proof_migration.proofs.Migration.Copier.Copiers.{copiers_keep}
use Rattle.law_journals.proofs.migration.copiers_keep.Goals as goal

pub returns : goal.returns
returns c = copiers_keep
