use Rattle.server_model.proofs.lost_calls.lost_request.Given as goal

abbrev pub ghost-of_any : goal.ghost-of_any
ghost-of_any g a = g.request
