use Rattle.std.proofs.Common.{◌≡◌, ◌∙◌}
use Rattle.std.proofs.lemmas.Result.{IfOk-weaker}
use Rattle.server_model.specs.declared.request.Request.TheVariants as requests
use Rattle.server_model.specs.Counting.{offered_inside}
use Rattle.server_model.specs.Drawing.{offered}
use Rattle.server_model.specs.Effects.{is_outside}
use Rattle.server_model.specs.States.{State, session_of}
use Rattle.server_storage.specs.Storage.{committed}
use Rattle.server.specs.Parts.{state_of}
use Rattle.server.proofs.CounterMoves.{created_counted, dropped_counted, none_missing, others_draw, others_stay, renamed_counted, set_counted, statement_counted}
use Rattle.server.proofs.counters.counter_move.Goals as goal

pub statement_move-requires : goal.statement_move-requires
statement_move-requires c = λ none.
    let state : State = state_of (committed c.args.storage.now) c.args.all_sessions.now in
    let drawn : c.offered_inside-drawn.result ≡ offered_inside (is_outside (session_of c.args.session state.sessions) (requests.Do c.in-Do.statement)) (offered state c.args.session c.in-Do.statement) = rw (c.is_outside.ensures, c.requires, c.in-Do.is) at c.offered_inside-drawn.ensures in
    none_missing state c.args.session c.in-Do.statement (is_outside (session_of c.args.session state.sessions) (requests.Do c.in-Do.statement)) c.offered_inside-drawn.result drawn none

pub returns-in-Do-clause-counters : goal.returns-in-Do-clause-counters
returns-in-Do-clause-counters c =
    let state : State = state_of (committed c.args.storage.now) c.args.all_sessions.now in
    let drawn : c.offered_inside-drawn.result ≡ offered_inside (is_outside (session_of c.args.session state.sessions) (requests.Do c.in-Do.statement)) (offered state c.args.session c.in-Do.statement) = rw (c.is_outside.ensures, c.requires, c.in-Do.is) at c.offered_inside-drawn.ensures in
    rw c.in-Do.is
    (IfOk-weaker c.statement_move.result _ _ (λ counter_move moves answer. moves answer ∙ statement_counted state c.args.session c.in-Do.statement c.offered_inside-drawn.result answer drawn) c.statement_move.ensures.counters)

pub returns-in_ok-counters_with-in-Create-clause-counters : goal.returns-in_ok-counters_with-in-Create-clause-counters
returns-in_ok-counters_with-in-Create-clause-counters c = λ answer.
    let state : State = state_of (committed c.args.storage.now) c.args.all_sessions.now in
    rw c.in-Create.is (created_counted state c.args.session c.in-Create.schema answer c.in_ok-counters_with-in-Create.field-0.items c.in_ok-counters_with-in-Create.ensures)

pub returns-in_ok-counters_without-in-Drop-clause-counters : goal.returns-in_ok-counters_without-in-Drop-clause-counters
returns-in_ok-counters_without-in-Drop-clause-counters c = λ answer.
    let state : State = state_of (committed c.args.storage.now) c.args.all_sessions.now in
    rw c.in-Drop.is (dropped_counted state c.args.session c.in-Drop.name answer c.in_ok-counters_without-in-Drop.field-0.items c.in_ok-counters_without-in-Drop.ensures)

pub returns-in_ok-counters_renamed-in-Rename-clause-counters : goal.returns-in_ok-counters_renamed-in-Rename-clause-counters
returns-in_ok-counters_renamed-in-Rename-clause-counters c = λ answer.
    let state : State = state_of (committed c.args.storage.now) c.args.all_sessions.now in
    rw c.in-Rename.is (renamed_counted state c.args.session c.in-Rename.pairs answer c.in_ok-counters_renamed-in-Rename.field-0.items c.in_ok-counters_renamed-in-Rename.ensures)

pub returns-in-SetCounter-clause-counters : goal.returns-in-SetCounter-clause-counters
returns-in-SetCounter-clause-counters c = λ answer.
    let state : State = state_of (committed c.args.storage.now) c.args.all_sessions.now in
    rw c.in-SetCounter.is (set_counted state c.args.session c.in-SetCounter.table c.in-SetCounter.number answer)

pub returns-in_default : goal.returns-in_default
returns-in_default c =
    let state : State = state_of (committed c.args.storage.now) c.args.all_sessions.now in
    record {
      counters = λ answer. others_stay state c.args.session c.args.request.now answer c.in_default.not-Do c.in_default.not-Create c.in_default.not-Drop c.in_default.not-Rename c.in_default.not-SetCounter;
      drawn = λ answer. others_draw state c.args.session c.args.request.now answer c.in_default.not-Do;
    }
