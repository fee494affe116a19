use Rattle.proof_migration.proofs.Migration.Others.{others_keep}
use Rattle.law_journals.proofs.migration.others_keep.Goals as goal

pub returns : goal.returns
returns c = others_keep
