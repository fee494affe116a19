use Rattle.std.proofs.Common.{arith}
use Rattle.server_sessions.proofs.LiveSessions.Ready.{ready_rests, writes_encodable, writes_within}
use Rattle.server_sessions.proofs.live_sessions.all_sessions.Sessions.commit_with.Goals as goal

pub append-requires-clause-encodable : goal.append-requires-clause-encodable
append-requires-clause-encodable c = rw (c.requires.writes, ← c.self.view_is) (writes_encodable c.self.inside.limits c.args.session c.self.inside.sessions.sessions c.self.inside.log.spare c.self.invariant)

pub append-requires-clause-room : goal.append-requires-clause-room
append-requires-clause-room c =
    let writes = rw (← c.self.view_is) at c.requires.writes in
    let own = writes_within c.self.inside.limits c.args.session c.self.inside.sessions.sessions c.self.inside.log.spare c.self.invariant in
    rw writes (omega (arith, own, c.in_ok-make_room.ensures.ok))

pub append-requires-2-clause-room : goal.append-requires-2-clause-room
append-requires-2-clause-room c =
    let writes = rw (← c.self.view_is) at c.requires.writes in
    let own = writes_within c.self.inside.limits c.args.session c.self.inside.sessions.sessions c.self.inside.log.spare c.self.invariant in
    omega (arith, own, c.in_ok-make_room.ensures.ok, rw writes at c.append.ensures.spare)

pub invariant_of-self-2 : goal.invariant_of-self-2
invariant_of-self-2 c =
    let writes = rw (← c.self.view_is) at c.requires.writes in
    rw c.rest.ensures
    (ready_rests c.self.inside.limits c.args.session c.self.inside.sessions.sessions c.self.inside.log.spare c.append-2.new.self.spare c.self.invariant
    (omega (arith, c.in_ok-make_room.ensures.ok, rw writes at c.append.ensures.spare, c.append-2.ensures.spare)))
