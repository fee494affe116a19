use Rattle.law_rebuild.proofs.Marked.{marks_rebuilt}
use Rattle.top_call.proofs.marks.accepted_marks_are_rebuilt.Goals as goal

pub returns : goal.returns
returns c = marks_rebuilt (record {
  rename = record { alone = c.exclusive_is_alone.ensures; done = c.definitions_are_done.ensures; reported = c.waits_are_reported.ensures.reported; turned = c.journals_are_turned.ensures };
  altered = c.accepted_runs_are_serial.ensures.altered;
  runnable = c.read_plans_are_runnable.ensures;
  serial = c.read_plans_are_serial.ensures.serial;
  alterable = c.read_plans_are_serial.ensures.alterable;
})
