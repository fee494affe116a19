use Rattle.top_call.proofs.top.doing.Goals as goal

pub returns-clause-does : goal.returns-clause-does
returns-clause-does g c = record {
  printed = c.outcome_of_line-outcome.result.printed;
  status = c.give-status.result;
  comes = c.outcome_of_line-outcome.ensures.comes;
  gives = c.give-status.ensures.gives;
  number_is = c.number.ensures;
}
