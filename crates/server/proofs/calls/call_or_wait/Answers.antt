use Rattle.std.proofs.Common.{◌≡◌, None, Some, sym, ap, ◌∙◌}
use Rattle.server_model.specs.declared.session.Waiting.{Waiting}
use Rattle.server_model.specs.Blockers.{blocker, need}
use Rattle.server_model.specs.PlainServer.{Served}
use Rattle.server_model.specs.States.{State}
use Rattle.server_storage.specs.Storage.{committed, written}
use Rattle.server.specs.Parts.{needed, state_of}
use Rattle.server.proofs.Steps.{waits_have}
use Rattle.server.proofs.Requests.{calls_done, calls_wait}
use Rattle.server.proofs.Counting.{call_drawn, call_left, drawn_waits, left_waits}
use Rattle.server.proofs.Polling.{full_blocker, may_call}
use Rattle.server.proofs.calls.call_or_wait.Goals as goal

pub do_filled-requires-clause-may : goal.do_filled-requires-clause-may
do_filled-requires-clause-may c =
    let none : blocker c.args.all_sessions.now c.args.session (needed c.request-full.result.now c.in_ok-prepared.prepared.locks) ≡ None = sym (rw c.as_slice.ensures at c.blocker.ensures) ∙ c.in-None.is in
    may_call (committed c.args.storage.now) (written c.args.storage.now) c.args.all_sessions.now c.args.session c.args.request.now c.request-full.result.now c.in_ok-prepared.prepared (c.request-full.ensures ∙ c.in_ok-filling.ensures.filled.filled) c.requires.together.have c.requires.may
    c.in_ok-prepared.ensures.locks c.in_ok-prepared.ensures.work none

pub returns-clause-answer : goal.returns-clause-answer
returns-clause-answer c =
    let state : State = state_of (committed c.args.storage.now) c.args.all_sessions.now in
    let none : blocker c.args.all_sessions.now c.args.session (needed c.request-full.result.now c.in_ok-prepared.prepared.locks) ≡ None = sym (rw c.as_slice.ensures at c.blocker.ensures) ∙ c.in-None.is in
    let free : blocker state c.args.session (need state c.args.session c.args.request.now) ≡ None =
    full_blocker (committed c.args.storage.now) (written c.args.storage.now) c.args.all_sessions.now c.args.session c.args.request.now c.request-full.result.now c.in_ok-prepared.prepared.locks None (c.request-full.ensures ∙ c.in_ok-filling.ensures.filled.filled) c.requires.together.have
    c.in_ok-prepared.ensures.locks none in
    rw (calls_done state c.args.session c.args.request.now free) c.do_filled.ensures.answer

pub returns-clause-drawn : goal.returns-clause-drawn
returns-clause-drawn c =
    let state : State = state_of (committed c.args.storage.now) c.args.all_sessions.now in
    let none : blocker c.args.all_sessions.now c.args.session (needed c.request-full.result.now c.in_ok-prepared.prepared.locks) ≡ None = sym (rw c.as_slice.ensures at c.blocker.ensures) ∙ c.in-None.is in
    let free : blocker state c.args.session (need state c.args.session c.args.request.now) ≡ None =
    full_blocker (committed c.args.storage.now) (written c.args.storage.now) c.args.all_sessions.now c.args.session c.args.request.now c.request-full.result.now c.in_ok-prepared.prepared.locks None (c.request-full.ensures ∙ c.in_ok-filling.ensures.filled.filled) c.requires.together.have
    c.in_ok-prepared.ensures.locks none in
    call_drawn state c.args.session c.args.request.now free c.do_filled.result c.do_filled.ensures.answer c.do_filled.ensures.drawn

pub returns-clause-ok : goal.returns-clause-ok
returns-clause-ok c =
    let state : State = state_of (committed c.args.storage.now) c.args.all_sessions.now in
    let none : blocker c.args.all_sessions.now c.args.session (needed c.request-full.result.now c.in_ok-prepared.prepared.locks) ≡ None = sym (rw c.as_slice.ensures at c.blocker.ensures) ∙ c.in-None.is in
    let free : blocker state c.args.session (need state c.args.session c.args.request.now) ≡ None =
    full_blocker (committed c.args.storage.now) (written c.args.storage.now) c.args.all_sessions.now c.args.session c.args.request.now c.request-full.result.now c.in_ok-prepared.prepared.locks None (c.request-full.ensures ∙ c.in_ok-filling.ensures.filled.filled) c.requires.together.have
    c.in_ok-prepared.ensures.locks none in
    call_left state (state_of (committed c.do_filled.new.storage) c.do_filled.new.all_sessions) c.args.session c.args.request.now free c.do_filled.result c.do_filled.ensures.answer c.do_filled.ensures.ok

pub returns-in-Some-clause-answer : goal.returns-in-Some-clause-answer
returns-in-Some-clause-answer c =
    let state : State = state_of (committed c.args.storage.now) c.args.all_sessions.now in
    let some : blocker c.args.all_sessions.now c.args.session (needed c.request-full.result.now c.in_ok-prepared.prepared.locks) ≡ Some c.in-Some.by = sym (rw c.as_slice.ensures at c.blocker.ensures) ∙ c.in-Some.is in
    let blocked : blocker state c.args.session (need state c.args.session c.args.request.now) ≡ Some c.in-Some.by =
    full_blocker (committed c.args.storage.now) (written c.args.storage.now) c.args.all_sessions.now c.args.session c.args.request.now c.request-full.result.now c.in_ok-prepared.prepared.locks (Some c.in-Some.by) (c.request-full.ensures ∙ c.in_ok-filling.ensures.filled.filled) c.requires.together.have
    c.in_ok-prepared.ensures.locks some in
    c.undrawn.ensures.answer ∙ sym (ap (λ (served : Served). served.answer) (calls_wait state c.args.session c.in-Some.by c.args.request.now blocked))

pub returns-in-Some-clause-drawn : goal.returns-in-Some-clause-drawn
returns-in-Some-clause-drawn c =
    let state : State = state_of (committed c.args.storage.now) c.args.all_sessions.now in
    let some : blocker c.args.all_sessions.now c.args.session (needed c.request-full.result.now c.in_ok-prepared.prepared.locks) ≡ Some c.in-Some.by = sym (rw c.as_slice.ensures at c.blocker.ensures) ∙ c.in-Some.is in
    let blocked : blocker state c.args.session (need state c.args.session c.args.request.now) ≡ Some c.in-Some.by =
    full_blocker (committed c.args.storage.now) (written c.args.storage.now) c.args.all_sessions.now c.args.session c.args.request.now c.request-full.result.now c.in_ok-prepared.prepared.locks (Some c.in-Some.by) (c.request-full.ensures ∙ c.in_ok-filling.ensures.filled.filled) c.requires.together.have
    c.in_ok-prepared.ensures.locks some in
    c.undrawn.ensures.drawn ∙ sym (drawn_waits state c.args.session c.in-Some.by c.args.request.now blocked)

pub returns-in-Some-clause-ok : goal.returns-in-Some-clause-ok
returns-in-Some-clause-ok c =
    let state : State = state_of (committed c.args.storage.now) c.args.all_sessions.now in
    let some : blocker c.args.all_sessions.now c.args.session (needed c.request-full.result.now c.in_ok-prepared.prepared.locks) ≡ Some c.in-Some.by = sym (rw c.as_slice.ensures at c.blocker.ensures) ∙ c.in-Some.is in
    let blocked : blocker state c.args.session (need state c.args.session c.args.request.now) ≡ Some c.in-Some.by =
    full_blocker (committed c.args.storage.now) (written c.args.storage.now) c.args.all_sessions.now c.args.session c.args.request.now c.request-full.result.now c.in_ok-prepared.prepared.locks (Some c.in-Some.by) (c.request-full.ensures ∙ c.in_ok-filling.ensures.filled.filled) c.requires.together.have
    c.in_ok-prepared.ensures.locks some in
    rw (left_waits state c.args.session c.in-Some.by c.args.request.now blocked) (ap (state_of (committed c.args.storage.now)) c.in_ok-wait-in-Some.ensures.ok)

pub returns-in-Some-clause-have : goal.returns-in-Some-clause-have
returns-in-Some-clause-have c =
    let one : Waiting = record { session = c.args.session; request = c.args.request.now } in
    waits_have (written c.args.storage.now) c.args.all_sessions.now c.wait.new.self c.args.session one c.requires.together.have c.in_ok-wait-in-Some.ensures.ok
