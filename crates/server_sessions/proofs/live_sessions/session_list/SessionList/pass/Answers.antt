use Rattle.server_sessions.specs.LiveSessions.KeptSessions.{records_of}
use Rattle.server_sessions.proofs.LiveSessions.SessionLists.{owned_passed}
use Rattle.server_sessions.proofs.live_sessions.session_list.SessionList.pass.Goals as goal

pub invariant_of-self : goal.invariant_of-self
invariant_of-self c =
    record {
      rows = owned_passed c.self.inside.made (records_of c.self.inside.locks.held c.self.inside.names.held c.self.inside.sessions.items) c.self.inside.locks.held c.self.invariant.rows;
      places = c.self.invariant.places;
      names = c.self.invariant.names;
      waits = c.self.invariant.waits;
    }
