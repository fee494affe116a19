use Rattle.law_traces.proofs.Accepted.{accepted_runs}
use Rattle.law_traces.proofs.accepted_plans_stand.Goals as goal

pub returns : goal.returns
returns c =
    let plans = c.read_plans_are_serial.ensures in
    let worded = c.read_plans_are_worded.ensures.worded in
    record {
      again = c.stored_values_store_again.ensures;
      accepted = c.read_plans_are_accepted.ensures;
      runnable = c.read_plans_are_runnable.ensures;
      alterable = plans.alterable;
      serial = plans.serial;
      worded = worded;
      allow = c.read_options_allow.ensures;
      runs = accepted_runs c.marked_journals_are_runs.ensures c.renames_find_the_altered.ensures c.renames_come_once.ensures c.read_plans_are_runnable.ensures plans.alterable worded plans.serial;
      serial_runs = c.accepted_runs_are_serial.ensures.serial;
      causes = c.accepted_runs_go_on.ensures.causes;
    }
