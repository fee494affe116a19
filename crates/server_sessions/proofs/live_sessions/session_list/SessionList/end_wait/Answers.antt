use Rattle.std.proofs.Common.{ap, sym, not, ◌∙◌, nat_eq, filter}
use Rattle.server_locks.specs.declared.metadata_locks.request.Waiter.{Waiter}
use Rattle.server_sessions.proofs.LiveSessions.HeldNames.{waits_left}
use Rattle.server_sessions.proofs.live_sessions.session_list.SessionList.end_wait.Goals as goal

pub invariant_of-self : goal.invariant_of-self
invariant_of-self c =
    rw (c.end_wait.ensures, c.end_waits.ensures)
    (record {
      rows = c.self.invariant.rows;
      places = c.self.invariant.places;
      names = c.self.invariant.names;
      waits = ap (filter (λ (waiter : Waiter). not (nat_eq waiter.session c.args.number))) c.self.invariant.waits ∙ sym (waits_left c.args.number c.self.inside.waiting.items);
    })
