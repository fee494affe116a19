use Rattle.proof_plans.proofs.Complete.WaitsOver.{quiet_are_done}
use Rattle.law_journals.proofs.completion.quiet_runs_are_done.Goals as goal

pub returns : goal.returns
returns c = quiet_are_done c.stored_values_store_again.ensures c.verdicts_tell_the_alter.ensures
