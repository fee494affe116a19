use Rattle.proof_migration.proofs.Migration.Applier.Stated.{alters_find_rows}
use Rattle.law_journals.proofs.migration.alters_find_rows.Goals as goal

pub returns : goal.returns
returns c = alters_find_rows
