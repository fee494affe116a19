use Rattle.top_call.proofs.top.laws_stand.Goals as goal

pub returns : goal.returns
returns c = record {
  tell = c.verdicts_tell_the_alter.ensures;
  runnable = c.read_plans_are_runnable.ensures;
  serial = c.read_plans_are_serial.ensures.serial;
  quiet = c.quiet_runs_are_done.ensures;
  smooth = c.smooth_runs_are_done.ensures;
  allow = c.read_options_allow.ensures;
  finishes = c.finishes_tell_the_alter.ensures;
}
