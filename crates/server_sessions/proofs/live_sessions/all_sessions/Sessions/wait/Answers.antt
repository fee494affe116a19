use Rattle.server_sessions.proofs.LiveSessions.Ready.{ready_waits}
use Rattle.server_sessions.proofs.live_sessions.all_sessions.Sessions.wait.Goals as goal

pub invariant_of-self-2 : goal.invariant_of-self-2
invariant_of-self-2 c = rw (c.count_polls.ensures, c.in_ok-begin_wait.ensures.ok) (ready_waits c.self.inside.limits c.args.session c.self.inside.sessions.sessions c.self.inside.log.spare c.self.invariant)
