use Rattle.std.proofs.Common.{◌≡◌, ◌+◌, ◌<◌, ◌∙◌, true, nat_eq, [], sym, ap, eq-eqb, arith}
use Rattle.server_model.specs.PlainServer.{is_over, limit_if, polled_over}
use Rattle.server_model.specs.States.{State, is_of_tool, polls_of, session_of}
use Rattle.server_sessions.proofs.LiveSessions.Polls.{polls_under}
use Rattle.server_sessions.proofs.LiveSessions.Ready.{ready_counts}
use Rattle.server_sessions.proofs.live_sessions.all_sessions.Sessions.stay_blocked.Goals as goal

pub overflow_add-waited : goal.overflow_add-waited
overflow_add-waited c =
    let under = polls_under c.self.inside.limits c.args.session c.self.inside.sessions.sessions c.self.invariant.clients c.self.invariant.polls in
    let polls = c.polls_of-polls.ensures in
    let limit = rw (← c.self.view_is) at c.limit-limit.ensures in
    omega (arith, under, polls, limit, c.limit-limit.type_inv)

pub invariant_of-self-else-waited-limit : goal.invariant_of-self-else-waited-limit
invariant_of-self-else-waited-limit c =
    let under = polls_under c.self.inside.limits c.args.session c.self.inside.sessions.sessions c.self.invariant.clients c.self.invariant.polls in
    let polls = c.polls_of-polls.ensures in
    let limit = rw (← c.self.view_is) at c.limit-limit.ensures in
    let less : c.polls_of-polls.result + 1 < limit_if (is_of_tool (session_of c.args.session c.self.inside.sessions.sessions)) c.self.inside.limits = omega (arith, under, polls, limit, c.if-waited-limit.false) in
    rw c.count_polls.ensures (ready_counts c.self.inside.limits c.args.session (c.polls_of-polls.result + 1) c.self.inside.sessions.sessions c.self.inside.log.spare less c.self.invariant)

pub returns-then-waited-limit-clause-after : goal.returns-then-waited-limit-clause-after
returns-then-waited-limit-clause-after c =
    let before : State =
    record {
      limits = c.self.inside.limits;
      made = c.self.inside.sessions.made;
      tables = [];
      log = c.self.inside.log.events;
      waiting = c.self.inside.sessions.waiting;
      sessions = c.self.inside.sessions.sessions;
      counters = c.self.inside.counters.items;
    }
    in
    let polls = c.polls_of-polls.ensures in
    let limit = rw (← c.self.view_is) at c.limit-limit.ensures in
    let over : nat_eq (polls_of (session_of c.args.session c.self.inside.sessions.sessions) + 1) (limit_if (is_of_tool (session_of c.args.session c.self.inside.sessions.sessions)) c.self.inside.limits) ≡ true =
    eq-eqb (polls_of (session_of c.args.session c.self.inside.sessions.sessions) + 1) (limit_if (is_of_tool (session_of c.args.session c.self.inside.sessions.sessions)) c.self.inside.limits) (omega (arith, polls, limit, c.if-waited-limit.true))
    in
    (rw c.end_wait.ensures at c.forget.ensures)
    ∙ ap (λ b. (polled_over b c.args.by before c.args.session).after) (sym over)
    ∙ ap (λ (s : State). (polled_over (is_over s c.args.session) c.args.by s c.args.session).after) c.self.view_is
