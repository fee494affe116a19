use Rattle.proof_plans.proofs.Tables.Found.{runs_find}
use Rattle.proof_plans.proofs.Tables.Old.{runs_keep_old}
use Rattle.law_journals.proofs.runs.accepted_runs_keep_tables.Goals as goal

pub returns : goal.returns
returns c =
    let once = c.renames_come_once.ensures in
    let runnable = c.read_plans_are_runnable.ensures in
    let serial = c.read_plans_are_serial.ensures.serial in
    record {
      found = runs_find c.marked_journals_are_runs.ensures c.renames_find_the_altered.ensures once runnable c.read_plans_are_serial.ensures.alterable c.read_plans_are_worded.ensures.worded serial;
      old =
          runs_keep_old (record { alone = c.exclusive_is_alone.ensures; done = c.definitions_are_done.ensures; reported = c.waits_are_reported.ensures.reported; turned = c.journals_are_turned.ensures }) once runnable serial;
    }
