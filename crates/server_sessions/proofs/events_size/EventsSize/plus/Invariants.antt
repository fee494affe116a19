use Rattle.std.proofs.Common.{◌++◌}
use Rattle.server_sessions.proofs.events_size.EventsSize.plus.Given as goal

abbrev pub ghost-joined : goal.ghost-joined
ghost-joined a = a.events.now.value ++ a.more.now.value
