use Rattle.std.proofs.Common.{not, nat_eq, filter}
use Rattle.server_model.specs.declared.session.Session.{Session}
use Rattle.server_sessions.specs.LiveSessions.KeptSessions.{records_of}
use Rattle.server_sessions.proofs.LiveSessions.Records.{records_less, tables_less}
use Rattle.server_sessions.proofs.LiveSessions.SessionLists.{shown}
use Rattle.server_sessions.proofs.live_sessions.session_list.SessionList.disconnect.Goals as goal

pub invariant_of-self : goal.invariant_of-self
invariant_of-self c = rw (c.disconnect.ensures, c.free.ensures, c.let_go-2.ensures, c.let_go.ensures) (tables_less c.self.inside.made c.args.number c.self.inside.sessions.items c.self.inside.waiting.items c.self.inside.locks c.self.inside.names c.self.invariant)

pub returns : goal.returns
returns c =
    shown c.self.inside.made (records_of c.self.inside.locks.held c.self.inside.names.held c.self.inside.sessions.items) (records_of c.free.new.self.held c.let_go-2.new.self.held c.disconnect.new.sessions.items) c.self.inside.waiting.items (filter (λ (session : Session). not (nat_eq session.number c.args.number))) c.args.self.now c.self.view_is
    (rw (c.disconnect.ensures, c.free.ensures, c.let_go-2.ensures, c.let_go.ensures) (records_less c.args.number c.self.inside.sessions.items c.self.inside.locks c.self.inside.names.held))
