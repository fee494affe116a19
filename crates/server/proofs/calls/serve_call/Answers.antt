use Rattle.std.proofs.Common.{sym, ap, ◌∙◌}
use Rattle.server_model.specs.PlainServer.{Served}
use Rattle.server_model.specs.States.{State}
use Rattle.server_storage.specs.Storage.{committed, written}
use Rattle.server.specs.Parts.{state_of}
use Rattle.server.proofs.Counting.{drawn_commit, drawn_rollback, drawn_unlock, left_commit, left_rollback, left_unlock}
use Rattle.server.proofs.Steps.{unlocks_have}
use Rattle.server.proofs.Requests.{calls_commit, calls_rollback, calls_unlock}
use Rattle.server.proofs.calls.serve_call.Goals as goal

pub returns-in-Commit-clause-answer : goal.returns-in-Commit-clause-answer
returns-in-Commit-clause-answer c =
    let state : State = state_of (committed c.args.storage.now) c.args.all_sessions.now in
    rw c.in-Commit.is (c.undrawn.ensures.answer ∙ sym (ap (λ (served : Served). served.answer) (calls_commit state c.args.session)))

pub returns-in-Commit-clause-drawn : goal.returns-in-Commit-clause-drawn
returns-in-Commit-clause-drawn c =
    let state : State = state_of (committed c.args.storage.now) c.args.all_sessions.now in
    rw c.in-Commit.is (c.undrawn.ensures.drawn ∙ sym (drawn_commit state c.args.session))

pub returns-in-Commit-clause-ok : goal.returns-in-Commit-clause-ok
returns-in-Commit-clause-ok c =
    let state : State = state_of (committed c.args.storage.now) c.args.all_sessions.now in
    rw (c.in-Commit.is, left_commit state c.args.session) c.commit.ensures.state

pub returns-in-Rollback-clause-answer : goal.returns-in-Rollback-clause-answer
returns-in-Rollback-clause-answer c =
    let state : State = state_of (committed c.args.storage.now) c.args.all_sessions.now in
    rw c.in-Rollback.is (c.undrawn-in-Rollback.ensures.answer ∙ sym (ap (λ (served : Served). served.answer) (calls_rollback state c.args.session)))

pub returns-in-Rollback-clause-drawn : goal.returns-in-Rollback-clause-drawn
returns-in-Rollback-clause-drawn c =
    let state : State = state_of (committed c.args.storage.now) c.args.all_sessions.now in
    rw c.in-Rollback.is (c.undrawn-in-Rollback.ensures.drawn ∙ sym (drawn_rollback state c.args.session))

pub returns-in-Rollback-clause-ok : goal.returns-in-Rollback-clause-ok
returns-in-Rollback-clause-ok c =
    let state : State = state_of (committed c.args.storage.now) c.args.all_sessions.now in
    rw (c.in-Rollback.is, left_rollback state c.args.session) c.roll_back.ensures.state

pub returns-in-Unlock-clause-answer : goal.returns-in-Unlock-clause-answer
returns-in-Unlock-clause-answer c =
    let state : State = state_of (committed c.args.storage.now) c.args.all_sessions.now in
    rw c.in-Unlock.is (c.undrawn-in-Unlock.ensures.answer ∙ sym (ap (λ (served : Served). served.answer) (calls_unlock state c.args.session)))

pub returns-in-Unlock-clause-drawn : goal.returns-in-Unlock-clause-drawn
returns-in-Unlock-clause-drawn c =
    let state : State = state_of (committed c.args.storage.now) c.args.all_sessions.now in
    rw c.in-Unlock.is (c.undrawn-in-Unlock.ensures.drawn ∙ sym (drawn_unlock state c.args.session))

pub returns-in-Unlock-clause-ok : goal.returns-in-Unlock-clause-ok
returns-in-Unlock-clause-ok c =
    let state : State = state_of (committed c.args.storage.now) c.args.all_sessions.now in
    rw (c.in-Unlock.is, left_unlock state c.args.session) (ap (state_of (committed c.args.storage.now)) c.unlock.ensures)

pub returns-in-Unlock-clause-have : goal.returns-in-Unlock-clause-have
returns-in-Unlock-clause-have c = unlocks_have (written c.args.storage.now) c.args.all_sessions.now c.unlock.new.self c.args.session c.requires.together.have c.unlock.ensures
