use Rattle.std.proofs.Common.{◌≡◌, None, Some, sym, ap, ◌∙◌}
use Rattle.std.specs.Prelude.{is_some}
use Rattle.std.proofs.lemmas.Bool.{false≢true}
use Rattle.server_model.specs.Blockers.{blocker, need}
use Rattle.server_model.specs.PlainServer.{Served}
use Rattle.server_model.specs.States.{State, waiting_of}
use Rattle.server_storage.specs.Storage.{committed, written}
use Rattle.server.specs.Parts.{needed, state_of}
use Rattle.server.proofs.Blocked.{blocked_by, noted_so}
use Rattle.server.proofs.Counting.{drawn_blocked, left_blocked, poll_answer, poll_drawn, poll_left}
use Rattle.server.proofs.Requests.{freely_blocked, polls_blocked}
use Rattle.server.proofs.Polling.{full_blocker, may_poll, some_names}
use Rattle.server.proofs.calls.poll_unknown.Goals as goal

pub do_waiting-requires-clause-filled : goal.do_waiting-requires-clause-filled
do_waiting-requires-clause-filled c =
    rw c.in_ok-request-in-None.ensures c.in_ok-filling.ensures.filled

pub do_waiting-requires-clause-may : goal.do_waiting-requires-clause-may
do_waiting-requires-clause-may c =
    let waits : waiting_of c.args.session c.args.all_sessions.now.waiting ≡ Some c.in-Some.waiting.now = sym c.in-Some.ensures in
    let none : blocker c.args.all_sessions.now c.args.session (needed c.request-full.result.now c.in_ok-prepared.prepared.locks) ≡ None = sym (rw c.as_slice.ensures at c.blocker.ensures) ∙ c.in-None.is in
    rw c.in_ok-request-in-None.ensures
    (may_poll (committed c.args.storage.now) (written c.args.storage.now) c.args.all_sessions.now c.args.session c.in-Some.waiting.now c.request-full.result.now c.in_ok-prepared.prepared (c.request-full.ensures ∙ c.in_ok-filling.ensures.filled.filled) c.requires.together c.requires.may waits c.in_ok-prepared.ensures.locks c.in_ok-prepared.ensures.work none)

pub returns-clause-free : goal.returns-clause-free
returns-clause-free c = λ freely.
    let state : State = state_of (committed c.args.storage.now) c.args.all_sessions.now in
    let waits : waiting_of c.args.session c.args.all_sessions.now.waiting ≡ Some c.in-Some.waiting.now = sym c.in-Some.ensures in
    let none : blocker c.args.all_sessions.now c.args.session (needed c.request-full.result.now c.in_ok-prepared.prepared.locks) ≡ None = sym (rw c.as_slice.ensures at c.blocker.ensures) ∙ c.in-None.is in
    let free : blocker state c.args.session (need state c.args.session c.in-Some.waiting.now.request) ≡ None =
    full_blocker (committed c.args.storage.now) (written c.args.storage.now) c.args.all_sessions.now c.args.session c.in-Some.waiting.now.request c.request-full.result.now c.in_ok-prepared.prepared.locks None (c.request-full.ensures ∙ c.in_ok-filling.ensures.filled.filled) c.requires.together.have c.in_ok-prepared.ensures.locks none in
    absurd (false≢true (sym (ap is_some free) ∙ freely_blocked state c.args.session c.in-Some.waiting.now waits freely))

pub returns-in-Some-blocker-clause-answer : goal.returns-in-Some-blocker-clause-answer
returns-in-Some-blocker-clause-answer c =
    let state : State = state_of (committed c.args.storage.now) c.args.all_sessions.now in
    let waits : waiting_of c.args.session c.args.all_sessions.now.waiting ≡ Some c.in-Some.waiting.now = sym c.in-Some.ensures in
    let some : blocker c.args.all_sessions.now c.args.session (needed c.request-full.result.now c.in_ok-prepared.prepared.locks) ≡ Some c.in-Some-blocker.by = sym (rw c.as_slice.ensures at c.blocker.ensures) ∙ c.in-Some-blocker.is in
    let blocked : blocker state c.args.session (need state c.args.session c.in-Some.waiting.now.request) ≡ Some c.in-Some-blocker.by =
    full_blocker (committed c.args.storage.now) (written c.args.storage.now) c.args.all_sessions.now c.args.session c.in-Some.waiting.now.request c.request-full.result.now c.in_ok-prepared.prepared.locks (Some c.in-Some-blocker.by) (c.request-full.ensures ∙ c.in_ok-filling.ensures.filled.filled) c.requires.together.have c.in_ok-prepared.ensures.locks some in
    c.undrawn-in-Some-blocker.ensures.answer ∙ (c.stay_blocked.ensures.answer ∙ sym (ap (λ (served : Served). served.answer) (polls_blocked state c.args.session c.in-Some-blocker.by c.in-Some.waiting.now waits blocked)))

pub returns-in-Some-blocker-clause-drawn : goal.returns-in-Some-blocker-clause-drawn
returns-in-Some-blocker-clause-drawn c =
    let state : State = state_of (committed c.args.storage.now) c.args.all_sessions.now in
    let waits : waiting_of c.args.session c.args.all_sessions.now.waiting ≡ Some c.in-Some.waiting.now = sym c.in-Some.ensures in
    let some : blocker c.args.all_sessions.now c.args.session (needed c.request-full.result.now c.in_ok-prepared.prepared.locks) ≡ Some c.in-Some-blocker.by = sym (rw c.as_slice.ensures at c.blocker.ensures) ∙ c.in-Some-blocker.is in
    let blocked : blocker state c.args.session (need state c.args.session c.in-Some.waiting.now.request) ≡ Some c.in-Some-blocker.by =
    full_blocker (committed c.args.storage.now) (written c.args.storage.now) c.args.all_sessions.now c.args.session c.in-Some.waiting.now.request c.request-full.result.now c.in_ok-prepared.prepared.locks (Some c.in-Some-blocker.by) (c.request-full.ensures ∙ c.in_ok-filling.ensures.filled.filled) c.requires.together.have c.in_ok-prepared.ensures.locks some in
    c.undrawn-in-Some-blocker.ensures.drawn ∙ sym (drawn_blocked state c.args.session c.in-Some-blocker.by c.in-Some.waiting.now waits blocked)

pub returns-in-Some-blocker-clause-ok : goal.returns-in-Some-blocker-clause-ok
returns-in-Some-blocker-clause-ok c =
    let state : State = state_of (committed c.args.storage.now) c.args.all_sessions.now in
    let waits : waiting_of c.args.session c.args.all_sessions.now.waiting ≡ Some c.in-Some.waiting.now = sym c.in-Some.ensures in
    let some : blocker c.args.all_sessions.now c.args.session (needed c.request-full.result.now c.in_ok-prepared.prepared.locks) ≡ Some c.in-Some-blocker.by = sym (rw c.as_slice.ensures at c.blocker.ensures) ∙ c.in-Some-blocker.is in
    let blocked : blocker state c.args.session (need state c.args.session c.in-Some.waiting.now.request) ≡ Some c.in-Some-blocker.by =
    full_blocker (committed c.args.storage.now) (written c.args.storage.now) c.args.all_sessions.now c.args.session c.in-Some.waiting.now.request c.request-full.result.now c.in_ok-prepared.prepared.locks (Some c.in-Some-blocker.by) (c.request-full.ensures ∙ c.in_ok-filling.ensures.filled.filled) c.requires.together.have c.in_ok-prepared.ensures.locks some in
    c.stay_blocked.ensures.after ∙ sym (left_blocked state c.args.session c.in-Some-blocker.by c.in-Some.waiting.now waits blocked)

pub returns-clause-answer : goal.returns-clause-answer
returns-clause-answer c =
    let state : State = state_of (committed c.args.storage.now) c.args.all_sessions.now in
    let waits : waiting_of c.args.session c.args.all_sessions.now.waiting ≡ Some c.in-Some.waiting.now = sym c.in-Some.ensures in
    let none : blocker c.args.all_sessions.now c.args.session (needed c.request-full.result.now c.in_ok-prepared.prepared.locks) ≡ None = sym (rw c.as_slice.ensures at c.blocker.ensures) ∙ c.in-None.is in
    let free : blocker state c.args.session (need state c.args.session c.in-Some.waiting.now.request) ≡ None =
    full_blocker (committed c.args.storage.now) (written c.args.storage.now) c.args.all_sessions.now c.args.session c.in-Some.waiting.now.request c.request-full.result.now c.in_ok-prepared.prepared.locks None (c.request-full.ensures ∙ c.in_ok-filling.ensures.filled.filled) c.requires.together.have c.in_ok-prepared.ensures.locks none in
    let named = some_names (committed c.args.storage.now) (written c.args.storage.now) c.args.all_sessions.now c.args.session c.in-Some.waiting.now c.requires.together waits in
    poll_answer state c.args.session c.in-Some.waiting.now waits named free c.do_waiting.result (rw c.in_ok-request-in-None.ensures at c.do_waiting.ensures.answer)

pub returns-clause-drawn : goal.returns-clause-drawn
returns-clause-drawn c =
    let state : State = state_of (committed c.args.storage.now) c.args.all_sessions.now in
    let waits : waiting_of c.args.session c.args.all_sessions.now.waiting ≡ Some c.in-Some.waiting.now = sym c.in-Some.ensures in
    let none : blocker c.args.all_sessions.now c.args.session (needed c.request-full.result.now c.in_ok-prepared.prepared.locks) ≡ None = sym (rw c.as_slice.ensures at c.blocker.ensures) ∙ c.in-None.is in
    let free : blocker state c.args.session (need state c.args.session c.in-Some.waiting.now.request) ≡ None =
    full_blocker (committed c.args.storage.now) (written c.args.storage.now) c.args.all_sessions.now c.args.session c.in-Some.waiting.now.request c.request-full.result.now c.in_ok-prepared.prepared.locks None (c.request-full.ensures ∙ c.in_ok-filling.ensures.filled.filled) c.requires.together.have c.in_ok-prepared.ensures.locks none in
    let named = some_names (committed c.args.storage.now) (written c.args.storage.now) c.args.all_sessions.now c.args.session c.in-Some.waiting.now c.requires.together waits in
    poll_drawn state c.args.session c.in-Some.waiting.now waits named free c.do_waiting.result (rw c.in_ok-request-in-None.ensures at c.do_waiting.ensures.answer) (rw c.in_ok-request-in-None.ensures at c.do_waiting.ensures.drawn)

pub returns-clause-ok : goal.returns-clause-ok
returns-clause-ok c =
    let state : State = state_of (committed c.args.storage.now) c.args.all_sessions.now in
    let waits : waiting_of c.args.session c.args.all_sessions.now.waiting ≡ Some c.in-Some.waiting.now = sym c.in-Some.ensures in
    let none : blocker c.args.all_sessions.now c.args.session (needed c.request-full.result.now c.in_ok-prepared.prepared.locks) ≡ None = sym (rw c.as_slice.ensures at c.blocker.ensures) ∙ c.in-None.is in
    let free : blocker state c.args.session (need state c.args.session c.in-Some.waiting.now.request) ≡ None =
    full_blocker (committed c.args.storage.now) (written c.args.storage.now) c.args.all_sessions.now c.args.session c.in-Some.waiting.now.request c.request-full.result.now c.in_ok-prepared.prepared.locks None (c.request-full.ensures ∙ c.in_ok-filling.ensures.filled.filled) c.requires.together.have c.in_ok-prepared.ensures.locks none in
    let named = some_names (committed c.args.storage.now) (written c.args.storage.now) c.args.all_sessions.now c.args.session c.in-Some.waiting.now c.requires.together waits in
    poll_left state (state_of (committed c.do_waiting.new.storage) c.do_waiting.new.all_sessions) c.args.session c.in-Some.waiting.now waits named free c.do_waiting.result (rw c.in_ok-request-in-None.ensures at c.do_waiting.ensures.answer) (rw c.in_ok-request-in-None.ensures at c.do_waiting.ensures.ok)

pub stay_blocked-requires-clause-blocked : goal.stay_blocked-requires-clause-blocked
stay_blocked-requires-clause-blocked c =
    let state : State = state_of (committed c.args.storage.now) c.args.all_sessions.now in
    let waits : waiting_of c.args.session c.args.all_sessions.now.waiting ≡ Some c.in-Some.waiting.now = sym c.in-Some.ensures in
    let some : blocker c.args.all_sessions.now c.args.session (needed c.request-full.result.now c.in_ok-prepared.prepared.locks) ≡ Some c.in-Some-blocker.by = sym (rw c.as_slice.ensures at c.blocker.ensures) ∙ c.in-Some-blocker.is in
    let blocked : blocker state c.args.session (need state c.args.session c.in-Some.waiting.now.request) ≡ Some c.in-Some-blocker.by =
    full_blocker (committed c.args.storage.now) (written c.args.storage.now) c.args.all_sessions.now c.args.session c.in-Some.waiting.now.request c.request-full.result.now c.in_ok-prepared.prepared.locks (Some c.in-Some-blocker.by) (c.request-full.ensures ∙ c.in_ok-filling.ensures.filled.filled) c.requires.together.have c.in_ok-prepared.ensures.locks some in
    noted_so c.note.result state c.args.session c.in-Some-blocker.by c.args.known.now c.note.new.self c.note.ensures.ok c.note.ensures.err c.requires.blocked (blocked_by state c.args.session c.in-Some-blocker.by c.in-Some.waiting.now waits blocked)

pub returns-clause-blocked : goal.returns-clause-blocked
returns-clause-blocked c = rw c.forget.ensures tt
