use Rattle.std.proofs.Common.{refl}
use Rattle.server_model.specs.PlainServer.{unlocking}
use Rattle.server_sessions.proofs.LiveSessions.Ready.{ready_same}
use Rattle.server_sessions.proofs.live_sessions.all_sessions.Sessions.unlock.Goals as goal

pub invariant_of-self : goal.invariant_of-self
invariant_of-self c = rw c.unlock_tables.ensures (ready_same c.self.inside.limits c.args.session unlocking c.self.inside.sessions.sessions c.self.inside.log.spare (λ s. refl) (λ s. refl) (λ s. refl) c.self.invariant)
