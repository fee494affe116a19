use Rattle.std.proofs.Common.{refl, sym, ◌∙◌}
use Rattle.server_model.specs.States.{State}
use Rattle.server_storage.specs.Storage.{committed}
use Rattle.server.specs.Parts.{state_of}
use Rattle.server.proofs.Requests.{did_inside, did_outside}
use Rattle.server.proofs.operation.do_request.Goals as goal

pub returns-then-is_outside-clause-answer : goal.returns-then-is_outside-clause-answer
returns-then-is_outside-clause-answer c =
    let state : State = state_of (committed c.args.storage.now) c.args.all_sessions.now in
    rw (did_outside state c.args.session c.args.request.now (sym c.is_outside.ensures ∙ c.if-is_outside.true)) c.refuses.ensures

pub returns-then-is_outside-clause-ok : goal.returns-then-is_outside-clause-ok
returns-then-is_outside-clause-ok c =
    let state : State = state_of (committed c.args.storage.now) c.args.all_sessions.now in
    rw (did_outside state c.args.session c.args.request.now (sym c.is_outside.ensures ∙ c.if-is_outside.true)) refl

pub returns-else-is_outside-clause-answer : goal.returns-else-is_outside-clause-answer
returns-else-is_outside-clause-answer c =
    let state : State = state_of (committed c.args.storage.now) c.args.all_sessions.now in
    rw (did_inside state c.args.session c.args.request.now (sym c.is_outside.ensures ∙ c.if-is_outside.false)) c.do_inside.ensures.answer

pub returns-else-is_outside-clause-ok : goal.returns-else-is_outside-clause-ok
returns-else-is_outside-clause-ok c =
    let state : State = state_of (committed c.args.storage.now) c.args.all_sessions.now in
    rw (did_inside state c.args.session c.args.request.now (sym c.is_outside.ensures ∙ c.if-is_outside.false)) c.do_inside.ensures.ok
