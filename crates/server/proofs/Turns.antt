-- What a call, a poll and a loss leave, done or not.
use Rattle.std.proofs.Common.{◌≡◌, ℕ, List, Option, None, Result, Ok, Err, OnOk, OnErr, sym, ap, subst}
use Rattle.base_values.specs.declared.event.RowEvent.{RowEvent}
use Rattle.base_script.specs.declared.actor.Side.{Side}
use Rattle.table_store.specs.Databases.{Database}
use Rattle.server_model.specs.declared.entry.Asked.{Asked}
use Rattle.server_model.specs.declared.entry.Asked.TheVariants.{Call, Poll}
use Rattle.server_model.specs.declared.request.Request.{Request}
use Rattle.server_model.specs.Conditions.{MayCall, MayLose, MayPoll}
use Rattle.server_model.specs.PlainServer.{calls, counters_left, leaves, polls, state_left}
use Rattle.server_model.specs.States.{State}
use Rattle.proof_journals.specs.ServerFacts.Invariants.{IsServing}
use Rattle.proof_journals.proofs.ServerFacts.Calls.{calls_serve, losses_serve, polls_serve}
use Rattle.server.specs.declared.known_blockers.KnownBlocker.{KnownBlocker}
use Rattle.server.specs.KnownBlockers.{AreBlocked, IsServer}
use Rattle.server.specs.Parts.{state_of, GoTogether, HaveValidSchemas, HaveWritten}
use Rattle.server.proofs.Steps.{recounted_serves}
use Rattle.server.proofs.ValidSchemas.{calls_valid, losses_valid, polls_valid}

-- the tables of a state that is this one
valid_in : (tables : Database) (all_sessions state : State) → state_of tables all_sessions ≡ state → HaveValidSchemas state.tables → HaveValidSchemas tables
valid_in tables all_sessions state is valid = subst HaveValidSchemas (sym (ap (λ (s : State). s.tables) is)) valid

turn_server : {A E : Type 0} (result : Result A E) (tables after : Database) (written later : ℕ → List RowEvent) (all_sessions new changed : State) (known : List KnownBlocker) → GoTogether tables written all_sessions → HaveValidSchemas changed.tables → IsServing changed → OnOk result (state_of after new ≡ changed) → OnErr result (state_of after new ≡ state_of tables all_sessions) → HaveWritten later new → AreBlocked (state_of after new) known
    → IsServer after later new known
turn_server (Ok answer) tables after written later all_sessions new changed known together valid serves ok err have blocked = record { together = record { valid = valid_in after new changed ok valid; have = have; serves = rw ok serves }; blocked = blocked }
turn_server (Err fault) tables after written later all_sessions new changed known together valid serves ok err have blocked = record {
  together = record { valid = valid_in after new (state_of tables all_sessions) err together.valid; have = have; serves = rw err together.serves };
  blocked = blocked;
}

pub call_server : {A E : Type 0} (result : Result A E) (tables after : Database) (written later : ℕ → List RowEvent) (all_sessions new : State) (known : List KnownBlocker) (number : ℕ) (request : Request) → GoTogether tables written all_sessions → MayCall (state_of tables all_sessions) number request
    → OnOk result (state_of after new ≡ state_left None (state_of tables all_sessions) number (Call request)) → OnErr result (state_of after new ≡ state_of tables all_sessions) → HaveWritten later new → AreBlocked (state_of after new) known → IsServer after later new known
call_server result tables after written later all_sessions new known number request together may ok err have blocked =
    let state : State = state_of tables all_sessions in
    turn_server result tables after written later all_sessions new (state_left None state number (Call request)) known together
    (calls_valid state number request together.valid may) (recounted_serves (counters_left None state number (Call request)) (calls state number request).after (calls_serve state number request together.serves may)) ok err have blocked

pub poll_server : {A E : Type 0} (result : Result A E) (tables after : Database) (written later : ℕ → List RowEvent) (all_sessions new : State) (known : List KnownBlocker) (number : ℕ) → GoTogether tables written all_sessions → MayPoll (state_of tables all_sessions) number
    → OnOk result (state_of after new ≡ state_left None (state_of tables all_sessions) number Poll) → OnErr result (state_of after new ≡ state_of tables all_sessions) → HaveWritten later new → AreBlocked (state_of after new) known → IsServer after later new known
poll_server result tables after written later all_sessions new known number together may ok err have blocked =
    let state : State = state_of tables all_sessions in
    turn_server result tables after written later all_sessions new (state_left None state number Poll) known together
    (polls_valid state number together.valid may) (recounted_serves (counters_left None state number Poll) (polls state number).after (polls_serve state number together.serves may)) ok err have blocked

pub loss_server : {A E : Type 0} (result : Result A E) (tables after : Database) (written later : ℕ → List RowEvent) (all_sessions new : State) (known : List KnownBlocker) (number : ℕ) (side : Option Side) (asked : Asked) → GoTogether tables written all_sessions → MayLose (state_of tables all_sessions) number side asked
    → OnOk result (state_of after new ≡ state_left side (state_of tables all_sessions) number asked) → OnErr result (state_of after new ≡ state_of tables all_sessions) → HaveWritten later new → AreBlocked (state_of after new) known → IsServer after later new known
loss_server result tables after written later all_sessions new known number side asked together may ok err have blocked =
    let state : State = state_of tables all_sessions in
    turn_server result tables after written later all_sessions new (state_left side state number asked) known together
    (losses_valid state number side asked together.valid may) (recounted_serves (counters_left side state number asked) (leaves side state number asked) (losses_serve state number side asked together.serves may)) ok err have blocked
