use Rattle.std.proofs.Common.{ap, ◌∙◌}
use Rattle.server_locks.specs.RowLocks.Grants.{blocker_of_set}
use Rattle.server_locks.proofs.RowLocks.SameBlockers.{same_blockers}
use Rattle.server_model.specs.States.{locks_held}
use Rattle.server_sessions.specs.LiveSessions.KeptSessions.{records_of}
use Rattle.server_sessions.specs.LiveSessions.SessionLists.{NumberedSessions}
use Rattle.server_sessions.proofs.LiveSessions.Records.{same_locks}
use Rattle.server_sessions.proofs.live_sessions.session_list.SessionList.blocker.Goals as goal

pub returns : goal.returns
returns c =
    c.blocker.ensures
    ∙ same_blockers c.args.number c.args.locks.now c.self.inside.locks.held (locks_held (records_of c.self.inside.locks.held c.self.inside.names.held c.self.inside.sessions.items))
    (same_locks c.self.inside.made c.self.inside.sessions.items c.self.inside.locks.held c.self.inside.names.held c.self.invariant.rows)
    ∙ ap (λ (all : NumberedSessions). blocker_of_set (locks_held all.sessions) c.args.number c.args.locks.now) c.self.view_is
