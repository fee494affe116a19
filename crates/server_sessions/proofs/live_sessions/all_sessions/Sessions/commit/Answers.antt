use Rattle.std.proofs.Common.{arith}
use Rattle.server_sessions.proofs.LiveSessions.Ready.{ready_rests, writes_encodable, writes_within}
use Rattle.server_sessions.proofs.live_sessions.all_sessions.Sessions.commit.Goals as goal

pub append-requires-clause-encodable : goal.append-requires-clause-encodable
append-requires-clause-encodable c = rw (c.requires, ← c.self.view_is) (writes_encodable c.self.inside.limits c.args.session c.self.inside.sessions.sessions c.self.inside.log.spare c.self.invariant)

pub append-requires-clause-room : goal.append-requires-clause-room
append-requires-clause-room c = rw (c.requires, ← c.self.view_is) (writes_within c.self.inside.limits c.args.session c.self.inside.sessions.sessions c.self.inside.log.spare c.self.invariant)

pub invariant_of-self : goal.invariant_of-self
invariant_of-self c =
    let writes = rw (← c.self.view_is) at c.requires in
    rw c.rest.ensures
    (ready_rests c.self.inside.limits c.args.session c.self.inside.sessions.sessions c.self.inside.log.spare c.append.new.self.spare c.self.invariant (omega (arith, rw writes at c.append.ensures.spare)))
