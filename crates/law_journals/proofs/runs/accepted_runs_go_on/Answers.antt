use Rattle.proof_plans.proofs.Accepted.{causes_stand, runs_go_on, runs_online}
use Rattle.law_journals.proofs.runs.accepted_runs_go_on.Goals as goal

pub returns : goal.returns
returns c = record {
  online = runs_online c.journals_are_online.ensures c.read_plans_are_runnable.ensures;
  going = runs_go_on c.someone_goes.ensures c.read_plans_are_runnable.ensures c.read_plans_are_serial.ensures.serial c.read_scripts_end.ensures;
  causes =
      causes_stand c.panics_stand.ensures.stands c.spent_tasks_stand.ensures.stands c.spent_cut_overs_stand.ensures c.unfit_rows_stand.ensures c.read_plans_are_runnable.ensures c.read_plans_are_serial.ensures.alterable c.read_plans_are_worded.ensures.worded
      c.read_plans_are_serial.ensures.serial c.read_plans_are_worded.ensures.drain;
}
