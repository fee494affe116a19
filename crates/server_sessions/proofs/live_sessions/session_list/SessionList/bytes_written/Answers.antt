use Rattle.std.proofs.Common.{◌∙◌, ap, refl, []}
use Rattle.std.specs.Option.{option_map}
use Rattle.std.specs.Prelude.{unwrap_or}
use Rattle.server_log.specs.EventCosts.Costs.{bytes_of}
use Rattle.server_model.specs.States.{writes_of}
use Rattle.server_sessions.specs.LiveSessions.KeptSessions.{KeptSession}
use Rattle.server_sessions.specs.LiveSessions.SessionLists.{NumberedSessions}
use Rattle.server_sessions.proofs.LiveSessions.Records.{told_alike}
use Rattle.server_sessions.proofs.live_sessions.session_list.SessionList.bytes_written.Goals as goal

pub returns : goal.returns
returns c =
    (rw c.as_slice.ensures.value at c.bytes_written.ensures)
    ∙ told_alike (λ one. bytes_of (unwrap_or (option_map (λ (s : KeptSession). s.writes) one) [])) (λ one. bytes_of (writes_of one)) c.args.self.now c.args.number c.self.inside.locks.held c.self.inside.names.held c.self.inside.sessions.items refl (λ s. refl) (ap (λ (list : NumberedSessions). list.sessions) c.self.view_is)
