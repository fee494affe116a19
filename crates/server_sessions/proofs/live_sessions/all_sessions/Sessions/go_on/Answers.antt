use Rattle.server_sessions.proofs.LiveSessions.Ready.{ready_grows}
use Rattle.server_sessions.proofs.live_sessions.all_sessions.Sessions.go_on.Goals as goal

pub invariant_of-self-in-Ok : goal.invariant_of-self-in-Ok
invariant_of-self-in-Ok c =
    rw (c.in-Ok.ensures.ok, c.of-size.ensures, c.in_ok-room.ensures.ok)
    (ready_grows c.self.inside.limits c.args.session c.in_ok-need.need c.args.events.now c.self.inside.sessions.sessions c.self.inside.log.spare c.self.invariant c.in_ok-room.ensures.encodable)
