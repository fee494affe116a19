use Rattle.server_model.specs.PlainServer.{at_rest}
use Rattle.server_model.specs.States.{with_session}
use Rattle.server_sessions.specs.LiveSessions.KeptSessions.{records_of}
use Rattle.server_sessions.proofs.LiveSessions.Records.{records_rested, tables_rested}
use Rattle.server_sessions.proofs.LiveSessions.SessionLists.{shown}
use Rattle.server_sessions.proofs.live_sessions.session_list.SessionList.rest.Goals as goal

pub invariant_of-self : goal.invariant_of-self
invariant_of-self c = rw (c.rest.ensures, c.free.ensures, c.let_go.ensures) (tables_rested c.self.inside.made c.args.number c.self.inside.sessions.items c.self.inside.waiting.items c.self.inside.locks c.self.inside.names c.self.invariant)

pub returns : goal.returns
returns c =
    shown c.self.inside.made (records_of c.self.inside.locks.held c.self.inside.names.held c.self.inside.sessions.items) (records_of c.free.new.self.held c.let_go.new.self.held c.rest.new.sessions.items) c.self.inside.waiting.items (with_session c.args.number at_rest) c.args.self.now c.self.view_is
    (rw (c.rest.ensures, c.free.ensures, c.let_go.ensures) (records_rested c.self.inside.made c.args.number c.self.inside.sessions.items c.self.inside.waiting.items c.self.inside.locks c.self.inside.names c.self.invariant))
