use Rattle.server_sessions.proofs.LiveSessions.Ready.{ready_none}
use Rattle.server_sessions.proofs.live_sessions.all_sessions.Sessions.new.Goals as goal

pub invariant_of-result : goal.invariant_of-result
invariant_of-result c = rw c.new-2.ensures (ready_none c.args.limits c.new.result.spare c.requires.clients c.requires.tools)
