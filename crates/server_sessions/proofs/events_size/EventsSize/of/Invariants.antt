use Rattle.server_sessions.proofs.events_size.EventsSize.of.Given as goal

abbrev pub ghost-shown : goal.ghost-shown
ghost-shown a = a.events.now
