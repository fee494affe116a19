use Rattle.std.proofs.Common.{◌+◌, ◌++◌, ◌∷◌, []}
use Rattle.server_model.specs.States.{new_session}
use Rattle.server_sessions.proofs.LiveSessions.Ready.{ready_either, ready_joined}
use Rattle.server_sessions.proofs.live_sessions.all_sessions.Sessions.connect.Goals as goal

pub invariant_of-self : goal.invariant_of-self
invariant_of-self c =
    ready_either c.connect.result c.self.inside.limits c.self.inside.sessions (record c.self.inside.sessions { made = c.self.inside.sessions.made + 1; sessions = c.self.inside.sessions.sessions ++ new_session (c.self.inside.sessions.made + 1) c.args.is_tool ∷ [] }) c.connect.new.self c.self.inside.log.spare c.connect.ensures.ok c.connect.ensures.err
    (ready_joined c.self.inside.limits (c.self.inside.sessions.made + 1) c.args.is_tool c.self.inside.sessions.sessions c.self.inside.log.spare c.self.invariant) c.self.invariant
