use Rattle.proof_migration.proofs.Migration.Migrating.{journals_alter}
use Rattle.law_journals.proofs.migration.journals_alter.Goals as goal

pub returns : goal.returns
returns c = journals_alter
