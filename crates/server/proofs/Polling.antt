-- Calls that wait, and polls.
use Rattle.std.proofs.Common.{◌≡◌, ◌≢◌, ℕ, Bool, true, false, List, [], Option, Some, None, refl, sym, ap, ◌∙◌, subst}
use Rattle.std.proofs.lemmas.Option.{same_Some}
use Rattle.base_values.specs.declared.event.RowEvent.{RowEvent}
use Rattle.server_locks.specs.declared.row_locks.lock.Lock.{Lock}
use Rattle.table_store.specs.Databases.{Database}
use Rattle.server_model.specs.declared.answer.Answer.{Answer}
use Rattle.server_model.specs.declared.answer.Answer.TheVariants as answers
use Rattle.server_model.specs.declared.request.Request.{Request}
use Rattle.server_model.specs.declared.session.Waiting.{Waiting}
use Rattle.base_script.specs.declared.statement.Statement.{Statement}
use Rattle.server_model.specs.declared.request.Request.TheVariants as requests
use Rattle.server_model.specs.Drawing.{filled, filled_for, numbered}
use Rattle.server_model.proofs.Filling.{filled_case, filled_exclusive}
use Rattle.server_model.specs.Conditions.{ComesWell, IsWellFormed, MayCall, MayPoll}
use Rattle.server_model.specs.Operations.{after_events}
use Rattle.server_model.specs.Blockers.{blocker, need, need_within, row_locks_of}
use Rattle.server_model.specs.PlainServer.{polled_over}
use Rattle.server_model.specs.declared.counter.Counter.{Counter}
use Rattle.server_model.specs.States.{State, holds_tables, is_exclusive, is_in_transaction, is_of_tool, names_in, session_of, view, waiting_of}
use Rattle.server_execute.specs.declared.found_work.FoundWork.{FoundWork}
use Rattle.server_transaction.specs.Prepared.{IsWorkFor}
use Rattle.server_transaction.specs.declared.prepared.Prepared.{Prepared}
use Rattle.proof_journals.proofs.ServerFacts.Calls.{comes_of, names_of}
use Rattle.server.specs.Parts.{needed, state_of, GoTogether, HaveWritten, MayDo}
use Rattle.server.proofs.Steps.{seen_so}
use Rattle.server.proofs.Requests.{blocker_so}

-- THE FILLED REQUEST

-- it may come where the one may that was asked, and is as well formed
filled_comes : (busy locked tool : Bool) (tables : Database) (counters : List Counter) (request : Request) → ComesWell busy locked request → ComesWell busy locked (filled_for tool tables counters request)
filled_comes busy locked = filled_case (λ asked full. ComesWell busy locked asked → ComesWell busy locked full) (λ r comes. comes) (λ statement n comes. numbered_comes busy locked n statement) where
  numbered_comes : (busy locked : Bool) (n : Option ℕ) (statement : Statement) → ComesWell busy locked (requests.Do (numbered n statement))
  numbered_comes busy locked n statement = tt

filled_formed : (found tables : Database) (tool : Bool) (counters : List Counter) (request : Request) → IsWellFormed found request → IsWellFormed found (filled_for tool tables counters request)
filled_formed found tables tool counters request = filled_case (λ asked full. IsWellFormed found asked → IsWellFormed found full) (λ r formed. formed) (λ statement n formed. tt) tool tables counters request

-- the request with which a filling fills the one that was asked
pub full_exclusive : (state : State) (number : ℕ) (request full : Request) → full ≡ filled state number request → is_exclusive request ≡ true → is_exclusive full ≡ true
full_exclusive state number request full is exclusive = ap is_exclusive is ∙ filled_exclusive (is_of_tool (session_of number state.sessions)) state.tables state.counters request ∙ exclusive

-- who blocks it
pub full_blocker : (tables : Database) (written : ℕ → List RowEvent) (all_sessions : State) (number : ℕ) (request full : Request) (locks : List Lock) (found : Option ℕ) → full ≡ filled (state_of tables all_sessions) number request → HaveWritten written all_sessions → locks ≡ row_locks_of (after_events tables (written number)) full
    → blocker all_sessions number (needed full locks) ≡ found → blocker (state_of tables all_sessions) number (need (state_of tables all_sessions) number request) ≡ found
full_blocker tables written all_sessions number request full locks found is have are blocked =
    let state : State = state_of tables all_sessions in
    ap (λ (r : Request). blocker state number (need_within (view number state) r)) (sym is) ∙ sym (blocker_so tables written all_sessions number full locks have are) ∙ blocked

full_locks : (tables : Database) (written : ℕ → List RowEvent) (all_sessions : State) (number : ℕ) (full own : Request) (locks : List Lock) → full ≡ own → HaveWritten written all_sessions → locks ≡ row_locks_of (after_events tables (written number)) full → locks ≡ row_locks_of (view number (state_of tables all_sessions)) own
full_locks tables written all_sessions number full own locks is have are = are ∙ ap (λ (d : Database). row_locks_of d full) (seen_so tables written all_sessions number have) ∙ ap (row_locks_of (view number (state_of tables all_sessions))) is

full_work : (tables : Database) (written : ℕ → List RowEvent) (all_sessions : State) (number : ℕ) (full own : Request) (work : Option FoundWork) → full ≡ own → HaveWritten written all_sessions → IsWorkFor (after_events tables (written number)) full work → IsWorkFor (view number (state_of tables all_sessions)) own work
full_work tables written all_sessions number full own work is have its = subst (λ (r : Request). IsWorkFor (view number (state_of tables all_sessions)) r work) is (subst (λ (d : Database). IsWorkFor d full work) (seen_so tables written all_sessions number have) its)

-- a call that nobody blocks
pub may_call : (tables : Database) (written : ℕ → List RowEvent) (all_sessions : State) (number : ℕ) (request full : Request) (prepared : Prepared) → full ≡ filled (state_of tables all_sessions) number request → HaveWritten written all_sessions → MayCall (state_of tables all_sessions) number request
    → prepared.locks ≡ row_locks_of (after_events tables (written number)) full → IsWorkFor (after_events tables (written number)) full prepared.work → blocker all_sessions number (needed full prepared.locks) ≡ None → MayDo (state_of tables all_sessions) number (filled (state_of tables all_sessions) number request) prepared
may_call tables written all_sessions number request full prepared is have may are work none =
    let state : State = state_of tables all_sessions in
    record {
      live = may.live;
      comes = filled_comes (is_in_transaction (session_of number state.sessions)) (holds_tables (session_of number state.sessions)) (is_of_tool (session_of number state.sessions)) state.tables state.counters request may.comes;
      formed = filled_formed state.tables state.tables (is_of_tool (session_of number state.sessions)) state.counters request may.formed;
      work_is = full_work tables written all_sessions number full (filled state number request) prepared.work is have work;
      locks_are = full_locks tables written all_sessions number full (filled state number request) prepared.locks is have are;
      free = full_blocker tables written all_sessions number request full prepared.locks None is have are none;
    }

-- a request that waits, and that nobody blocks any more
pub formed_so : (state : State) (number : ℕ) (one : Waiting) → MayPoll state number → waiting_of number state.waiting ≡ Some one → IsWellFormed state.tables one.request
formed_so state number one may is = let same : may.waiting ≡ one = same_Some may.waiting one (sym may.waits ∙ is) in subst (λ (w : Waiting). IsWellFormed state.tables w.request) same may.formed

pub may_poll : (tables : Database) (written : ℕ → List RowEvent) (all_sessions : State) (number : ℕ) (one : Waiting) (full : Request) (prepared : Prepared) → full ≡ filled (state_of tables all_sessions) number one.request → GoTogether tables written all_sessions → MayPoll (state_of tables all_sessions) number
    → waiting_of number all_sessions.waiting ≡ Some one → prepared.locks ≡ row_locks_of (after_events tables (written number)) full → IsWorkFor (after_events tables (written number)) full prepared.work → blocker all_sessions number (needed full prepared.locks) ≡ None → MayDo (state_of tables all_sessions) number (filled (state_of tables all_sessions) number one.request) prepared
may_poll tables written all_sessions number one full prepared filled_is together may is are work none =
    let state : State = state_of tables all_sessions in
    record {
      live = may.live;
      comes = filled_comes (is_in_transaction (session_of number state.sessions)) (holds_tables (session_of number state.sessions)) (is_of_tool (session_of number state.sessions)) state.tables state.counters one.request (comes_of state number one is together.serves);
      formed = filled_formed state.tables state.tables (is_of_tool (session_of number state.sessions)) state.counters one.request (formed_so state number one may is);
      work_is = full_work tables written all_sessions number full (filled state number one.request) prepared.work filled_is together.have work;
      locks_are = full_locks tables written all_sessions number full (filled state number one.request) prepared.locks filled_is together.have are;
      free = full_blocker tables written all_sessions number one.request full prepared.locks None filled_is together.have are none;
    }

pub some_names : (tables : Database) (written : ℕ → List RowEvent) (all_sessions : State) (number : ℕ) (one : Waiting) → GoTogether tables written all_sessions → waiting_of number all_sessions.waiting ≡ Some one → names_in one.request ≢ []
some_names tables written all_sessions number one together is = names_of (state_of tables all_sessions) number one is together.serves

-- a poll that stays blocked, by whether the wait is over
pub over_answer : (over : Bool) (tables : Database) (all_sessions : State) (number by : ℕ) → (polled_over over by all_sessions number).answer ≡ (polled_over over by (state_of tables all_sessions) number).answer
over_answer true tables all_sessions number by = refl
over_answer false tables all_sessions number by = refl

pub over_after : (over : Bool) (tables : Database) (all_sessions : State) (number by : ℕ) → state_of tables (polled_over over by all_sessions number).after ≡ (polled_over over by (state_of tables all_sessions) number).after
over_after true tables all_sessions number by = refl
over_after false tables all_sessions number by = refl

-- a wait that timed out was over, and one that goes on wasn't
pub over_timed : (over : Bool) (all_sessions : State) (number by waited : ℕ) → answers.TimedOut waited ≡ (polled_over over by all_sessions number).answer → over ≡ true
over_timed true all_sessions number by waited is = refl
over_timed false all_sessions number by waited is = absurd (cc)

pub not_over : (over : Bool) (all_sessions : State) (number by : ℕ) (answer : Answer) → answer ≡ (polled_over over by all_sessions number).answer → ((waited : ℕ) → answer ≡ answers.TimedOut waited → ⊥) → over ≡ false
not_over true all_sessions number by answer is not = absurd (not _ is)
not_over false all_sessions number by answer is not = refl
