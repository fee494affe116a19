use Rattle.run_state.specs.NextAsked.{asked_of}
use Rattle.run_turns.proofs.due.asked_lost.Given as goal

abbrev pub ghost-lost_in_turn : goal.ghost-lost_in_turn
ghost-lost_in_turn g a = asked_of a.run_state.now a.next
