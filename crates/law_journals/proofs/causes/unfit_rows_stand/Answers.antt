use Rattle.proof_migration.proofs.Unfit.Rows.{rows_stand}
use Rattle.law_journals.proofs.causes.unfit_rows_stand.Goals as goal

pub returns : goal.returns
returns c = rows_stand c.stored_values_store_again.ensures c.alterable_plans_are_runnable.ensures
