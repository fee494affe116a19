use Rattle.std.proofs.Common.{refl}
use Rattle.server_sessions.proofs.LiveSessions.HeldNames.{names_none}
use Rattle.server_sessions.proofs.LiveSessions.SessionLists.{owned_none}
use Rattle.server_sessions.proofs.live_sessions.session_list.SessionList.new.Goals as goal

pub invariant_of-result : goal.invariant_of-result
invariant_of-result c = rw (c.new.ensures.items, c.new-2.ensures.items, c.new-3.ensures, c.new-4.ensures) (record { rows = owned_none; places = tt; names = names_none; waits = refl })
