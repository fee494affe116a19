use Rattle.law_draws.proofs.ReadPlans.{runs_draw}
use Rattle.top_call.proofs.draws.accepted_runs_draw.Goals as goal

pub returns : goal.returns
returns c = runs_draw (record {
  rename = record { alone = c.exclusive_is_alone.ensures; done = c.definitions_are_done.ensures; reported = c.waits_are_reported.ensures.reported; turned = c.journals_are_turned.ensures };
  altered = c.accepted_runs_are_serial.ensures.altered;
  runnable = c.read_plans_are_runnable.ensures;
  serial = c.read_plans_are_serial.ensures.serial;
})
