use Rattle.proof_migration.proofs.Migration.Migrating.{moves_keep, turns_keep}
use Rattle.law_journals.proofs.migration.migrations_go_on.Goals as goal

pub returns-clause-turns : goal.returns-clause-turns
returns-clause-turns c = turns_keep

pub returns-clause-moves : goal.returns-clause-moves
returns-clause-moves c = moves_keep
