use Rattle.law_journals.proofs.Sums.{operator_bounded, clients_bounded, setups_bounded, attempts_bounded, clearings_bounded}
use Rattle.law_journals.proofs.bounds.some_parts_are_bounded.Goals as goal

pub returns : goal.returns
returns c =
    let runnable = c.read_plans_are_runnable.ensures in
    let serial = c.read_plans_are_serial.ensures.serial in
    record {
      operator = operator_bounded c.operator_turns_are_few.ensures;
      clients = clients_bounded c.client_turns_are_few.ensures c.read_options_allow.ensures runnable;
      setup = setups_bounded c.setup_turns_are_few.ensures runnable serial;
      attempts = attempts_bounded c.attempt_turns_are_few.ensures c.read_options_allow.ensures runnable serial;
      clearing = clearings_bounded c.clearing_turns_are_few.ensures c.read_options_allow.ensures runnable serial;
    }
