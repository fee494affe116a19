use Rattle.std.proofs.Common.{not, filter, ap, [], ◌∙◌}
use Rattle.std.specs.Prelude.{◌==◌}
use Rattle.server_model.specs.declared.session.Session.{Session}
use Rattle.server_model.specs.PlainServer.{without_waiting}
use Rattle.server_model.specs.States.{State}
use Rattle.server_sessions.proofs.LiveSessions.Ready.{ready_less}
use Rattle.server_sessions.proofs.LiveSessions.SessionLists.{loses_so}
use Rattle.server_sessions.proofs.live_sessions.all_sessions.Sessions.lose.Goals as goal

pub invariant_of-self-2 : goal.invariant_of-self-2
invariant_of-self-2 c = rw c.disconnect.ensures (ready_less c.self-2.inside.limits c.args.session c.self-2.inside.sessions.sessions c.self-2.inside.log.spare c.self-2.invariant)

pub returns : goal.returns
returns c =
    let waits : State =
    record {
      limits = c.self.inside.limits;
      made = c.end_wait.new.self.made;
      tables = [];
      log = c.self.inside.log.events;
      waiting = c.end_wait.new.self.waiting;
      sessions = c.end_wait.new.self.sessions;
      counters = c.self.inside.counters.items;
    }
    in
    rw c.disconnect.ensures
    (ap (λ (s : State). record s { sessions = filter (λ (session : Session). not (session.number == c.args.session)) s.sessions }) c.self-2.view_is
    ∙ loses_so c.args.session c.args.self.now waits c.forget.new.self (rw c.end_wait.ensures (ap (without_waiting c.args.session) c.self.view_is)) c.forget.ensures)
