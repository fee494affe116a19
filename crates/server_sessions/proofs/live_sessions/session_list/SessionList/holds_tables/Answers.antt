use Rattle.std.proofs.Common.{◌∙◌, ap}
use Rattle.server_model.specs.States.{holds_tables, session_of}
use Rattle.server_sessions.specs.LiveSessions.KeptSessions.{records_of}
use Rattle.server_sessions.specs.LiveSessions.SessionLists.{NumberedSessions}
use Rattle.server_sessions.proofs.LiveSessions.Locked.{holds_alike}
use Rattle.server_sessions.proofs.live_sessions.session_list.SessionList.holds_tables.Goals as goal

pub returns : goal.returns
returns c =
    c.holds_any.ensures ∙ holds_alike c.args.number (records_of c.self.inside.locks.held c.self.inside.names.held c.self.inside.sessions.items) c.self.inside.names.held c.self.invariant.names
    ∙ ap (λ (list : NumberedSessions). holds_tables (session_of c.args.number list.sessions)) c.self.view_is
