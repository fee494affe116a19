use Rattle.proof_migration.proofs.Migration.Planning.Planned.{alters_planned}
use Rattle.law_journals.proofs.migration.alters_are_planned.Goals as goal

pub returns : goal.returns
returns c = alters_planned c.stored_values_store_again.ensures
