use Rattle.std.proofs.Common.{◌∙◌, ap}
use Rattle.server_model.specs.Effects.{is_outside}
use Rattle.server_model.specs.States.{session_of}
use Rattle.server_sessions.specs.LiveSessions.KeptSessions.{records_of}
use Rattle.server_sessions.specs.LiveSessions.SessionLists.{NumberedSessions}
use Rattle.server_sessions.proofs.LiveSessions.Locked.{outside_alike}
use Rattle.server_sessions.proofs.live_sessions.session_list.SessionList.is_outside.Goals as goal

pub returns : goal.returns
returns c =
    c.is_outside.ensures ∙ outside_alike c.args.number c.args.request.now (records_of c.self.inside.locks.held c.self.inside.names.held c.self.inside.sessions.items) c.self.inside.names.held c.self.invariant.names
    ∙ ap (λ (list : NumberedSessions). is_outside (session_of c.args.number list.sessions) c.args.request.now) c.self.view_is
