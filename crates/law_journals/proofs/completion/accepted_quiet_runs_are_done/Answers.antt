use Rattle.proof_plans.proofs.Complete.Accepted.{accepted_are_done}
use Rattle.law_journals.proofs.completion.accepted_quiet_runs_are_done.Goals as goal

pub returns : goal.returns
returns c =
    accepted_are_done c.quiet_runs_are_done.ensures c.read_plans_are_runnable.ensures c.read_plans_are_serial.ensures.serial c.read_scripts_end.ensures c.someone_goes.ensures
