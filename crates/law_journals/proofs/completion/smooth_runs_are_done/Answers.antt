use Rattle.proof_plans.proofs.Complete.Smooth.{smooth_are_done}
use Rattle.law_journals.proofs.completion.smooth_runs_are_done.Goals as goal

pub returns : goal.returns
returns c = smooth_are_done c.verdicts_tell_the_alter.ensures
