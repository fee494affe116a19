use Rattle.server_sessions.specs.LiveSessions.KeptSessions.{records_of}
use Rattle.server_sessions.proofs.LiveSessions.Records.{records_joined, tables_joined}
use Rattle.server_sessions.proofs.LiveSessions.SessionLists.{shown_joined}
use Rattle.server_sessions.proofs.live_sessions.session_list.SessionList.connect.Goals as goal

pub invariant_of-self-2 : goal.invariant_of-self-2
invariant_of-self-2 c = rw c.in_ok-connect.ensures.ok (tables_joined c.self.inside.made c.args.is_tool c.self.inside.sessions.items c.self.inside.waiting.items c.self.inside.locks.held c.self.inside.names c.self.invariant)

pub returns-clause-ok : goal.returns-clause-ok
returns-clause-ok c =
    shown_joined c.self.inside.made c.args.is_tool (records_of c.self.inside.locks.held c.self.inside.names.held c.self.inside.sessions.items) (records_of c.self.inside.locks.held c.self.inside.names.held c.connect.new.sessions.items) c.self.inside.waiting.items c.args.self.now c.self.view_is
    (rw c.in_ok-connect.ensures.ok (records_joined c.self.inside.made c.args.is_tool c.self.inside.sessions.items c.self.inside.locks.held c.self.inside.names.held c.self.invariant.rows))
