use Rattle.server_sessions.proofs.events_size.shown.Given as goal

abbrev pub ghost-of_any : goal.ghost-of_any
ghost-of_any g a = g.all
