use Rattle.std.proofs.Common.{ap, ◌∙◌}
use Rattle.server_locks.specs.MetadataLocks.Grants.{blocker_of_names}
use Rattle.server_locks.proofs.MetadataLocks.SameBlockers.{same_blockers}
use Rattle.server_model.specs.States.{is_exclusive, names_held, names_in, waiters}
use Rattle.server_sessions.specs.LiveSessions.KeptSessions.{records_of}
use Rattle.server_sessions.specs.LiveSessions.SessionLists.{NumberedSessions}
use Rattle.server_sessions.proofs.LiveSessions.HeldNames.{same_names}
use Rattle.server_sessions.proofs.live_sessions.session_list.SessionList.names_blocker.Goals as goal

pub returns : goal.returns
returns c =
    let sessions = records_of c.self.inside.locks.held c.self.inside.names.held c.self.inside.sessions.items in
    c.names_blocker.ensures
    ∙ same_blockers c.self.inside.names.waiting c.args.number (is_exclusive c.args.request.now) (names_in c.args.request.now) c.self.inside.names.held (names_held sessions)
    (same_names sessions c.self.inside.names.held c.self.invariant.rows.differ c.self.invariant.names)
    ∙ ap (λ w. blocker_of_names (names_held sessions) w c.args.number (is_exclusive c.args.request.now) (names_in c.args.request.now)) c.self.invariant.waits
    ∙ ap (λ (all : NumberedSessions). blocker_of_names (names_held all.sessions) (waiters all.waiting) c.args.number (is_exclusive c.args.request.now) (names_in c.args.request.now)) c.self.view_is
