use Rattle.law_traces.proofs.PlainValues.{values_plain}
use Rattle.law_traces.proofs.values_are_plain.Goals as goal

pub returns : goal.returns
returns c =
    values_plain c.read_plans_are_accepted.ensures c.read_plans_are_serial.ensures.alterable c.read_plans_are_runnable.ensures c.read_plans_are_serial.ensures.serial c.accepted_runs_go_on.ensures.causes
    c.stored_values_store_again.ensures
