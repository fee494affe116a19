use Rattle.proof_plans.proofs.Accepted.{renames_altered, runs_serial}
use Rattle.law_journals.proofs.runs.accepted_runs_are_serial.Goals as goal

pub returns : goal.returns
returns c =
    let alterable = c.read_plans_are_serial.ensures.alterable in
    let serial = c.read_plans_are_serial.ensures.serial in
    let worded = c.read_plans_are_worded.ensures.worded in
    record {
      serial = runs_serial c.kept_journals_are_serial.ensures alterable worded serial;
      altered = renames_altered c.renames_find_the_altered.ensures alterable worded serial;
    }
