use Rattle.std.proofs.Common.{refl}
use Rattle.server_model.specs.PlainServer.{locking}
use Rattle.server_model.specs.States.{with_session}
use Rattle.server_sessions.proofs.LiveSessions.Ready.{ready_either, ready_same}
use Rattle.server_sessions.proofs.live_sessions.all_sessions.Sessions.lock.Goals as goal

pub invariant_of-self : goal.invariant_of-self
invariant_of-self c =
    ready_either c.lock_tables.result c.self.inside.limits c.self.inside.sessions (record c.self.inside.sessions { sessions = with_session c.args.session (locking c.args.names.now) c.self.inside.sessions.sessions }) c.lock_tables.new.self c.self.inside.log.spare c.lock_tables.ensures.ok c.lock_tables.ensures.err
    (ready_same c.self.inside.limits c.args.session (locking c.args.names.now) c.self.inside.sessions.sessions c.self.inside.log.spare (λ s. refl) (λ s. refl) (λ s. refl) c.self.invariant) c.self.invariant
