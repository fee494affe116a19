use Rattle.std.proofs.Common.{◌∙◌, ap, refl, is_some}
use Rattle.server_sessions.specs.LiveSessions.SessionLists.{NumberedSessions}
use Rattle.server_sessions.proofs.LiveSessions.Records.{told_alike}
use Rattle.server_sessions.proofs.live_sessions.session_list.SessionList.is_live.Goals as goal

pub returns : goal.returns
returns c =
    (rw c.as_slice.ensures.value at c.is_live.ensures)
    ∙ told_alike is_some is_some c.args.self.now c.args.number c.self.inside.locks.held c.self.inside.names.held c.self.inside.sessions.items refl (λ s. refl) (ap (λ (list : NumberedSessions). list.sessions) c.self.view_is)
