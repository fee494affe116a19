use Rattle.std.proofs.Common.{◌≡◌, ap, ◌∙◌}
use Rattle.server_model.specs.declared.request.Request.{Request}
use Rattle.server_model.specs.Drawing.{filled}
use Rattle.server_model.specs.PlainServer.{did}
use Rattle.server_model.specs.States.{State}
use Rattle.server_storage.specs.Storage.{committed}
use Rattle.server.specs.Parts.{state_of}
use Rattle.server.proofs.Counting.{moved_so}
use Rattle.server.proofs.calls.do_filled.Goals as goal

pub do_request-requires-clause-may : goal.do_request-requires-clause-may
do_request-requires-clause-may c = rw (c.request-full.ensures, c.requires.filled.filled) c.requires.may

pub returns-clause-answer : goal.returns-clause-answer
returns-clause-answer c =
    let state : State = state_of (committed c.args.storage.now) c.args.all_sessions.now in
    let full : c.request-full.result.now ≡ filled state c.args.session c.args.request.now = c.request-full.ensures ∙ c.requires.filled.filled in
    c.in_ok-answer.ensures.answer ∙ ap (λ (r : Request). (did state c.args.session r).answer) full

pub returns-clause-drawn : goal.returns-clause-drawn
returns-clause-drawn c = c.move_counters-drawn.ensures.drawn ∙ c.in_ok-counter_move.ensures.drawn c.in_ok-answer.answer

pub returns-clause-ok : goal.returns-clause-ok
returns-clause-ok c =
    moved_so (committed c.args.storage.now) (committed c.do_request.new.storage) c.args.all_sessions.now c.do_request.new.all_sessions c.move_counters-drawn.new.self c.args.session c.args.request.now c.request-full.result.now c.in_ok-counter_move.counter_move c.in_ok-answer.answer
    (c.request-full.ensures ∙ c.requires.filled.filled) c.in_ok-answer.ensures.answer c.in_ok-answer.ensures.ok c.in_ok-counter_move.ensures.counters c.move_counters-drawn.ensures.counters
