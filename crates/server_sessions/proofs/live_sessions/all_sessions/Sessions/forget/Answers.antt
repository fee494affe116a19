use Rattle.std.proofs.Common.{arith}
use Rattle.server_sessions.proofs.LiveSessions.Ready.{ready_rests, writes_within}
use Rattle.server_sessions.proofs.live_sessions.all_sessions.Sessions.forget.Goals as goal

pub release-requires : goal.release-requires
release-requires c = rw c.bytes_written-bytes.ensures (writes_within c.self.inside.limits c.args.session c.self.inside.sessions.sessions c.self.inside.log.spare c.self.invariant)

pub invariant_of-self : goal.invariant_of-self
invariant_of-self c =
    rw c.rest.ensures
    (ready_rests c.self.inside.limits c.args.session c.self.inside.sessions.sessions c.self.inside.log.spare c.release.new.self.spare c.self.invariant
    (omega (arith, c.bytes_written-bytes.ensures, c.release.ensures.spare)))
