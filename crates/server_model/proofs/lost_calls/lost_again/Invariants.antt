use Rattle.server_model.proofs.lost_calls.lost_again.Given as goal

abbrev pub ghost-lost_as : goal.ghost-lost_as
ghost-lost_as a = a.shown.now.value
