use Rattle.std.proofs.Common.{sym, ◌∙◌}
use Rattle.server_model.specs.States.{State}
use Rattle.server_storage.specs.Storage.{committed}
use Rattle.server.specs.Parts.{state_of}
use Rattle.server.proofs.Blocked.{looked_blocked, same_blocked}
use Rattle.server.proofs.calls.call.Goals as goal

pub returns-in_err-served-clause-blocked : goal.returns-in_err-served-clause-blocked
returns-in_err-served-clause-blocked c =
    let state : State = state_of (committed c.args.storage.now) c.args.all_sessions.now in
    same_blocked state (state_of (committed c.serve_call.new.storage) c.serve_call.new.all_sessions) c.args.known.now c.in_err-served.ensures.err c.requires.blocked

pub returns-then-is_answered_look-clause-blocked : goal.returns-then-is_answered_look-clause-blocked
returns-then-is_answered_look-clause-blocked c =
    let state : State = state_of (committed c.args.storage.now) c.args.all_sessions.now in
    looked_blocked state (state_of (committed c.serve_call.new.storage) c.serve_call.new.all_sessions) c.args.session c.args.request.now c.in_ok-served.served.answer c.args.known.now (sym c.is_answered_look.ensures ∙ c.if-is_answered_look.true) c.in_ok-served.ensures.answer c.in_ok-served.ensures.ok c.requires.blocked

pub returns-clause-blocked : goal.returns-clause-blocked
returns-clause-blocked c = rw c.forget.ensures tt
