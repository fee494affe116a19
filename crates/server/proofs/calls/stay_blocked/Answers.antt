use Rattle.std.proofs.Common.{refl, sym, ap, ◌∙◌}
use Rattle.std.proofs.lemmas.Bool.{false≢true, true≢false}
use Rattle.server_model.specs.PlainServer.{is_over}
use Rattle.server_storage.specs.Storage.{committed, written}
use Rattle.server.specs.Parts.{state_of}
use Rattle.server.proofs.Steps.{blocked_have}
use Rattle.server.proofs.Blocked.{polled_blocked}
use Rattle.server.proofs.Polling.{not_over, over_after, over_answer, over_timed}
use Rattle.server.proofs.calls.stay_blocked.Goals as goal

pub returns-in-TimedOut-clause-have : goal.returns-in-TimedOut-clause-have
returns-in-TimedOut-clause-have c =
    let over = is_over c.args.all_sessions.now c.args.session in
    blocked_have (written c.args.storage.now) (written c.roll_back.new.self) c.args.all_sessions.now c.stay_blocked.new.self c.args.session c.args.by over c.requires.have (λ is. c.roll_back.ensures.own)
    (λ is. absurd (true≢false (sym (over_timed over c.args.all_sessions.now c.args.session c.args.by c.in-TimedOut.waited c.in-TimedOut.ensures.answer) ∙ is))) c.roll_back.ensures.others c.stay_blocked.ensures.after

pub returns-in-TimedOut-clause-blocked : goal.returns-in-TimedOut-clause-blocked
returns-in-TimedOut-clause-blocked c = rw c.forget.ensures tt

pub returns-in_default : goal.returns-in_default
returns-in_default c =
    let over = is_over c.args.all_sessions.now c.args.session in
    let goes_on = not_over over c.args.all_sessions.now c.args.session c.args.by c.stay_blocked.result c.stay_blocked.ensures.answer c.in_default.not-TimedOut in
    record {
      answer = c.stay_blocked.ensures.answer ∙ over_answer over (committed c.args.storage.now) c.args.all_sessions.now c.args.session c.args.by;
      after = ap (state_of (committed c.args.storage.now)) c.stay_blocked.ensures.after ∙ over_after over (committed c.args.storage.now) c.args.all_sessions.now c.args.session c.args.by;
      have = blocked_have (written c.args.storage.now) (written c.args.storage.now) c.args.all_sessions.now c.stay_blocked.new.self c.args.session c.args.by over c.requires.have (λ is. absurd (false≢true (sym goes_on ∙ is))) (λ is n. refl) (λ other differ. refl) c.stay_blocked.ensures.after;
      blocked = polled_blocked over (committed c.args.storage.now) c.args.all_sessions.now c.stay_blocked.new.self c.args.session c.args.by c.args.known.now goes_on c.stay_blocked.ensures.after c.requires.blocked;
    }
