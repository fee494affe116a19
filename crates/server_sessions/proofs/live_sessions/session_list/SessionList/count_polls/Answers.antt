use Rattle.server_model.specs.PlainServer.{counting}
use Rattle.server_model.specs.States.{with_session}
use Rattle.server_sessions.specs.LiveSessions.KeptSessions.{records_of}
use Rattle.server_sessions.proofs.LiveSessions.Records.{records_counted, tables_counted}
use Rattle.server_sessions.proofs.LiveSessions.SessionLists.{shown}
use Rattle.server_sessions.proofs.live_sessions.session_list.SessionList.count_polls.Goals as goal

pub invariant_of-self : goal.invariant_of-self
invariant_of-self c = rw c.count_polls.ensures (tables_counted c.self.inside.made c.args.number c.args.polls c.self.inside.sessions.items c.self.inside.waiting.items c.self.inside.locks.held c.self.inside.names c.self.invariant)

pub returns : goal.returns
returns c =
    shown c.self.inside.made (records_of c.self.inside.locks.held c.self.inside.names.held c.self.inside.sessions.items) (records_of c.self.inside.locks.held c.self.inside.names.held c.count_polls.new.sessions.items) c.self.inside.waiting.items (with_session c.args.number (counting c.args.polls)) c.args.self.now c.self.view_is
    (rw c.count_polls.ensures (records_counted c.self.inside.made c.args.number c.args.polls c.self.inside.sessions.items c.self.inside.waiting.items c.self.inside.locks.held c.self.inside.names c.self.invariant))
