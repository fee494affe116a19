use Rattle.proof_migration.proofs.ToolPhase.Runnable.Plans.{alterables_run}
use Rattle.law_journals.proofs.plans.alterable_plans_are_runnable.Goals as goal

pub returns : goal.returns
returns c = alterables_run c.stored_values_store_again.ensures
