use Rattle.server_model.proofs.lost_calls.lost_as.Given as goal

abbrev pub ghost-lost_request : goal.ghost-lost_request
ghost-lost_request g a = g.request
