use Rattle.top_call.proofs.finishes.read_plans_stand.Goals as goal

pub returns : goal.returns
returns c = record {
  again = c.stored_values_store_again.ensures;
  runnable = c.read_plans_are_runnable.ensures;
  serial = c.read_plans_are_serial.ensures.serial;
  alterable = c.read_plans_are_serial.ensures.alterable;
  worded = c.read_plans_are_worded.ensures.worded;
  allow = c.read_options_allow.ensures;
}
