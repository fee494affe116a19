use Rattle.server_model.specs.PlainServer.{unlocking}
use Rattle.server_model.specs.States.{with_session}
use Rattle.server_sessions.specs.LiveSessions.KeptSessions.{records_of}
use Rattle.server_sessions.proofs.LiveSessions.Records.{records_unlocked, tables_unlocked}
use Rattle.server_sessions.proofs.LiveSessions.SessionLists.{shown}
use Rattle.server_sessions.proofs.live_sessions.session_list.SessionList.unlock_tables.Goals as goal

pub invariant_of-self : goal.invariant_of-self
invariant_of-self c = rw (c.unlock_tables.ensures, c.let_go.ensures) (tables_unlocked c.self.inside.made c.args.number c.self.inside.sessions.items c.self.inside.waiting.items c.self.inside.locks.held c.self.inside.names c.self.invariant)

pub returns : goal.returns
returns c =
    shown c.self.inside.made (records_of c.self.inside.locks.held c.self.inside.names.held c.self.inside.sessions.items) (records_of c.self.inside.locks.held c.let_go.new.self.held c.unlock_tables.new.sessions.items) c.self.inside.waiting.items (with_session c.args.number unlocking) c.args.self.now c.self.view_is
    (rw (c.unlock_tables.ensures, c.let_go.ensures) (records_unlocked c.self.inside.made c.args.number c.self.inside.sessions.items c.self.inside.waiting.items c.self.inside.locks.held c.self.inside.names c.self.invariant))
