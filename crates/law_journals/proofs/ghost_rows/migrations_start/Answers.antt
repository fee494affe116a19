use Rattle.proof_journals.proofs.Ghost.Rows.Steps.{migration_starts}
use Rattle.law_journals.proofs.ghost_rows.migrations_start.Goals as goal

pub returns : goal.returns
returns c = migration_starts
