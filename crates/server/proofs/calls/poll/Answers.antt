use Rattle.std.proofs.Common.{◌≡◌, Some, sym, ap, ◌∙◌}
use Rattle.server_model.specs.Blockers.{blocker, need}
use Rattle.server_model.specs.PlainServer.{Served}
use Rattle.server_model.specs.States.{State}
use Rattle.server_storage.specs.Storage.{committed}
use Rattle.server.specs.Parts.{state_of}
use Rattle.server.proofs.Blocked.{found_so}
use Rattle.server.proofs.Counting.{drawn_blocked, left_blocked}
use Rattle.server.proofs.Requests.{polls_blocked}
use Rattle.server.proofs.calls.poll.Goals as goal

pub returns-in-Some-clause-answer : goal.returns-in-Some-clause-answer
returns-in-Some-clause-answer c =
    let state : State = state_of (committed c.args.storage.now) c.args.all_sessions.now in
    let may = c.requires.may in
    let blocked : blocker state c.args.session (need state c.args.session may.waiting.request) ≡ Some c.in-Some.by = (found_so state c.args.session c.in-Some.by c.args.known.now c.requires.blocked (sym c.blocker.ensures ∙ c.in-Some.is)).blocks may.waiting may.waits in
    c.undrawn.ensures.answer ∙ (c.stay_blocked.ensures.answer ∙ sym (ap (λ (served : Served). served.answer) (polls_blocked state c.args.session c.in-Some.by may.waiting may.waits blocked)))

pub returns-in-Some-clause-drawn : goal.returns-in-Some-clause-drawn
returns-in-Some-clause-drawn c =
    let state : State = state_of (committed c.args.storage.now) c.args.all_sessions.now in
    let may = c.requires.may in
    let blocked : blocker state c.args.session (need state c.args.session may.waiting.request) ≡ Some c.in-Some.by = (found_so state c.args.session c.in-Some.by c.args.known.now c.requires.blocked (sym c.blocker.ensures ∙ c.in-Some.is)).blocks may.waiting may.waits in
    c.undrawn.ensures.drawn ∙ sym (drawn_blocked state c.args.session c.in-Some.by may.waiting may.waits blocked)

pub returns-in-Some-clause-ok : goal.returns-in-Some-clause-ok
returns-in-Some-clause-ok c =
    let state : State = state_of (committed c.args.storage.now) c.args.all_sessions.now in
    let may = c.requires.may in
    let blocked : blocker state c.args.session (need state c.args.session may.waiting.request) ≡ Some c.in-Some.by = (found_so state c.args.session c.in-Some.by c.args.known.now c.requires.blocked (sym c.blocker.ensures ∙ c.in-Some.is)).blocks may.waiting may.waits in
    c.stay_blocked.ensures.after ∙ sym (left_blocked state c.args.session c.in-Some.by may.waiting may.waits blocked)
