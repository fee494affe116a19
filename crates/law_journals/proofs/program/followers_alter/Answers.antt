use Rattle.proof_migration.proofs.Program.Follows.{followers_alter}
use Rattle.law_journals.proofs.program.followers_alter.Goals as goal

pub returns : goal.returns
returns c = followers_alter c.stored_values_store_again.ensures c.alterable_plans_are_runnable.ensures
