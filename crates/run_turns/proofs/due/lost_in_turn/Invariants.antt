use Rattle.run_turns.proofs.due.lost_in_turn.Given as goal

abbrev pub ghost-lost : goal.ghost-lost
ghost-lost g a = g.what
