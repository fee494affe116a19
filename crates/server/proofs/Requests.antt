-- What requests are owed and give, once nobody blocks them.
use Rattle.std.proofs.Common.{◌≡◌, ◌≢◌, ℕ, Bool, true, false, List, [], ◌∷◌, ◌++◌, map, Option, Some, None, refl, sym, ap, ◌∙◌, subst}
use Rattle.std.specs.Prelude.{◌==◌, is_some}
use Rattle.std.proofs.lemmas.Bool.{and_parts}
use Rattle.std.specs.List.{list_any}
use Rattle.std.specs.Str.{bytes_eq}
use Rattle.base_values.specs.declared.row_conversion.map.MapColumn.{MapColumn}
use Rattle.base_values.specs.declared.event.RowEvent.{RowEvent}
use Rattle.base_values.specs.declared.value.Value.{Value}
use Rattle.base_values.specs.declared.mysql_errors.TheConstants.{ER_TABLE_NOT_LOCKED}
use Rattle.server_locks.specs.declared.row_locks.lock.Lock.{Lock}
use Rattle.table_store.specs.Databases.{Database}
use Rattle.table_store.specs.declared.renames.Pair.{Pair}
use Rattle.base_script.specs.declared.statement.Statement.{Statement}
use Rattle.server_model.specs.declared.answer.Answer.TheVariants as answers
use Rattle.server_model.specs.declared.request.Request.{Request}
use Rattle.server_model.specs.declared.request.Request.TheVariants as requests
use Rattle.server_model.specs.declared.session.Session.{Session}
use Rattle.server_model.specs.declared.session.Waiting.{Waiting}
use Rattle.server_model.specs.declared.work.StatementResult.{StatementResult}
use Rattle.server_model.specs.Answers.{ok, refuses}
use Rattle.server_model.specs.Conditions.{is_blocked_exclusive, is_freely_polled}
use Rattle.server_model.specs.Effects.{Effect, Rests, Grows, Writes, Forgets, Moves, Locks, Unlocks, effect, effect_unless, effect_within, is_beyond, is_outside}
use Rattle.server_model.specs.Operations.{Operation, after_events, copy_operation, operation_of, operation_result, statement_result, table_of}
use Rattle.server_model.specs.Blockers.{blocker, need, need_within, row_locks_of}
use Rattle.server_model.specs.Drawing.{filled, filled_for}
use Rattle.server_model.proofs.Filling.{filled_case}
use Rattle.server_model.specs.PlainServer.{calls, commits, counting, does, done, did, exclusive, forgets, is_over, polled_over, polls, serving, unlocking, without_waiting}
use Rattle.server_model.specs.declared.counter.Counter.{Counter}
use Rattle.server_model.specs.States.{State, is_exclusive, is_in_transaction, is_of_tool, locked_names, names_held, names_in, pair_names, session_of, tables_named, view, waiting_of, with_session}
use Rattle.server_model.specs.LockedRows.Databases.{EventsCovered}
use Rattle.server_model.proofs.LockedRows.Tests.{are_one}
use Rattle.proof_journals.specs.Holdings.{face_of}
use Rattle.proof_journals.proofs.Names.{Free, names_granted}
use Rattle.proof_journals.proofs.Faces.{writes_face, busy_face}
use Rattle.server_execute.specs.declared.found_work.FoundWork.{FoundWork}
use Rattle.server_transaction.specs.FittingEvents.{NoneOf}
use Rattle.server_transaction.specs.Prepared.{IsSoundWork, IsWorkFor, IsWorkOf, work_result}
use Rattle.server_transaction.specs.Premises.{events_ready}
use Rattle.server_transaction.specs.declared.prepared.Prepared.{Prepared}
use Rattle.server_transaction.specs.declared.prepared.ReadyResult.{ReadyResult}
use Rattle.server_transaction.proofs.PreparedWork.{work_gives, work_sound}
use Rattle.proof_journals.specs.ServerFacts.Grants.{GrowsWell}
use Rattle.proof_journals.proofs.ServerFacts.Effects.{AtWork, within_fits}
use Rattle.proof_journals.proofs.ServerFacts.Waits.{nothing_blocks}
use Rattle.server.specs.Parts.{needed, result_of, state_of, GoTogether, HaveWritten, MayDo}
use Rattle.server.proofs.Steps.{at_work, need_so, seen_so}

-- STATEMENTS AND COPIES

-- what prepared work gives, as the session sees the tables, and that it makes rows of its table
gives_so : (tables : Database) (written : ℕ → List RowEvent) (all_sessions : State) (number : ℕ) (operation : Operation) (name : List ℕ) (work : Option FoundWork) (result : StatementResult) → HaveWritten written all_sessions → name ≡ operation.table → IsWorkOf (view number (state_of tables all_sessions)) operation work
    → result ≡ work_result (after_events tables (written number)) name work → result ≡ operation_result (view number (state_of tables all_sessions)) operation
gives_so tables written all_sessions number operation name work result have own is gives =
    gives ∙ ap (λ (d : Database). work_result d name work) (seen_so tables written all_sessions number have) ∙ ap (λ (n : List ℕ). work_result (view number (state_of tables all_sessions)) n work) own ∙ work_gives (view number (state_of tables all_sessions)) operation work is

sound_so : (tables : Database) (written : ℕ → List RowEvent) (all_sessions : State) (number : ℕ) (operation : Operation) (name : List ℕ) (work : Option FoundWork) → HaveWritten written all_sessions → name ≡ operation.table → IsWorkOf (view number (state_of tables all_sessions)) operation work
    → IsSoundWork (after_events tables (written number)) name work
sound_so tables written all_sessions number operation name work have own is =
    subst (λ (d : Database). IsSoundWork d name work) (sym (seen_so tables written all_sessions number have))
    (subst (λ (n : List ℕ). IsSoundWork (view number (state_of tables all_sessions)) n work) (sym own) (work_sound (view number (state_of tables all_sessions)) operation work is))

-- the answer and the events are what a statement gives
pub both_given : (executed : ReadyResult) (result : StatementResult) → executed.answer ≡ result.answer → events_ready executed.writes ≡ result.events → result_of executed ≡ result
both_given executed result answer events = rw (answer, events) refl

statement_work : (state : State) (number : ℕ) (statement : Statement) (request : Request) (prepared : Prepared) → MayDo state number request prepared → request ≡ requests.Do statement → IsWorkOf (view number state) (operation_of statement) prepared.work
statement_work state number statement request prepared may is = subst (λ (r : Request). IsWorkFor (view number state) r prepared.work) is may.work_is

pub statement_sound : (tables : Database) (written : ℕ → List RowEvent) (all_sessions : State) (number : ℕ) (statement : Statement) (request : Request) (prepared : Prepared) (name : List ℕ) → HaveWritten written all_sessions → MayDo (state_of tables all_sessions) number request prepared
    → request ≡ requests.Do statement → name ≡ table_of statement → IsSoundWork (after_events tables (written number)) name prepared.work
statement_sound tables written all_sessions number statement request prepared name have may is own =
    sound_so tables written all_sessions number (operation_of statement) name prepared.work have own (statement_work (state_of tables all_sessions) number statement request prepared may is)

pub statement_gives : (tables : Database) (written : ℕ → List RowEvent) (all_sessions : State) (number : ℕ) (statement : Statement) (request : Request) (prepared : Prepared) (name : List ℕ) (result : StatementResult) → HaveWritten written all_sessions → MayDo (state_of tables all_sessions) number request prepared
    → request ≡ requests.Do statement → name ≡ table_of statement → result ≡ work_result (after_events tables (written number)) name prepared.work → result ≡ statement_result (view number (state_of tables all_sessions)) statement
statement_gives tables written all_sessions number statement request prepared name result have may is own gives =
    gives_so tables written all_sessions number (operation_of statement) name prepared.work result have own (statement_work (state_of tables all_sessions) number statement request prepared may is) gives

copy_work : (state : State) (number : ℕ) (from into : List ℕ) (columns : List MapColumn) (key : List Value) (request : Request) (prepared : Prepared) → MayDo state number request prepared → request ≡ requests.CopyRow from into columns key → IsWorkOf (view number state) (copy_operation (view number state) from into columns key) prepared.work
copy_work state number from into columns key request prepared may is = subst (λ (r : Request). IsWorkFor (view number state) r prepared.work) is may.work_is

pub copy_sound : (tables : Database) (written : ℕ → List RowEvent) (all_sessions : State) (number : ℕ) (from into : List ℕ) (columns : List MapColumn) (key : List Value) (request : Request) (prepared : Prepared) → HaveWritten written all_sessions → MayDo (state_of tables all_sessions) number request prepared
    → request ≡ requests.CopyRow from into columns key → IsSoundWork (after_events tables (written number)) into prepared.work
copy_sound tables written all_sessions number from into columns key request prepared have may is =
    sound_so tables written all_sessions number (copy_operation (view number (state_of tables all_sessions)) from into columns key) into prepared.work have refl (copy_work (state_of tables all_sessions) number from into columns key request prepared may is)

pub copy_gives : (tables : Database) (written : ℕ → List RowEvent) (all_sessions : State) (number : ℕ) (from into : List ℕ) (columns : List MapColumn) (key : List Value) (request : Request) (prepared : Prepared) (result : StatementResult) → HaveWritten written all_sessions → MayDo (state_of tables all_sessions) number request prepared
    → request ≡ requests.CopyRow from into columns key → result ≡ work_result (after_events tables (written number)) into prepared.work → result ≡ operation_result (view number (state_of tables all_sessions)) (copy_operation (view number (state_of tables all_sessions)) from into columns key)
copy_gives tables written all_sessions number from into columns key request prepared result have may is gives =
    gives_so tables written all_sessions number (copy_operation (view number (state_of tables all_sessions)) from into columns key) into prepared.work result have refl (copy_work (state_of tables all_sessions) number from into columns key request prepared may is) gives

grows_so : (tables : Database) (written : ℕ → List RowEvent) (all_sessions : State) (number : ℕ) (request own : Request) (prepared : Prepared) (result said : StatementResult) → MayDo (state_of tables all_sessions) number request prepared → request ≡ own → result ≡ said
    → GrowsWell tables (face_of all_sessions.sessions) number (need_within (view number (state_of tables all_sessions)) own) said.events → GrowsWell tables (face_of all_sessions.sessions) number (needed request prepared.locks) result.events
grows_so tables written all_sessions number request own prepared result said may is executed well =
    let needs : needed request prepared.locks ≡ need_within (view number (state_of tables all_sessions)) own = need_so tables all_sessions number request prepared may ∙ ap (need_within (view number (state_of tables all_sessions))) is in
    rw (needs, executed) well

pub statement_grows : (tables : Database) (written : ℕ → List RowEvent) (all_sessions : State) (number : ℕ) (statement : Statement) (request : Request) (prepared : Prepared) (result : StatementResult) → GoTogether tables written all_sessions → MayDo (state_of tables all_sessions) number request prepared
    → request ≡ requests.Do statement → result ≡ statement_result (view number (state_of tables all_sessions)) statement → GrowsWell tables (face_of all_sessions.sessions) number (needed request prepared.locks) result.events
statement_grows tables written all_sessions number statement request prepared result together may is executed =
    let state : State = state_of tables all_sessions in
    let work : AtWork state number (requests.Do statement) = subst (AtWork state number) is (at_work tables written all_sessions number request prepared together may) in
    grows_so tables written all_sessions number request (requests.Do statement) prepared result (statement_result (view number state) statement) may is executed (within_fits state number true (requests.Do statement) work)

pub copy_grows : (tables : Database) (written : ℕ → List RowEvent) (all_sessions : State) (number : ℕ) (from into : List ℕ) (columns : List MapColumn) (key : List Value) (request : Request) (prepared : Prepared) (result : StatementResult) → GoTogether tables written all_sessions → MayDo (state_of tables all_sessions) number request prepared
    → request ≡ requests.CopyRow from into columns key → result ≡ operation_result (view number (state_of tables all_sessions)) (copy_operation (view number (state_of tables all_sessions)) from into columns key) → GrowsWell tables (face_of all_sessions.sessions) number (needed request prepared.locks) result.events
copy_grows tables written all_sessions number from into columns key request prepared result together may is executed =
    let state : State = state_of tables all_sessions in
    let work : AtWork state number (requests.CopyRow from into columns key) = subst (AtWork state number) is (at_work tables written all_sessions number request prepared together may) in
    grows_so tables written all_sessions number request (requests.CopyRow from into columns key) prepared result (operation_result (view number state) (copy_operation (view number state) from into columns key)) may is executed (within_fits state number true (requests.CopyRow from into columns key) work)

-- TABLES THAT NOBODY WROTE TO

none_named : (held names : List (List ℕ)) (locks : List Lock) (tables : Database) (events : List RowEvent) → EventsCovered held locks tables events → ((name : List ℕ) → list_any (bytes_eq name) held ≡ true → list_any (bytes_eq name) names ≡ false) → NoneOf names events
none_named held names locks tables [] covered off = tt
none_named held names locks tables (event ∷ events) covered off = (off event.table covered.0.named, none_named held names locks tables events covered.1 off)

pub unwritten : (tables : Database) (written : ℕ → List RowEvent) (all_sessions : State) (number : ℕ) (names : List (List ℕ)) → GoTogether tables written all_sessions → Free (names_held all_sessions.sessions) number (map exclusive names) → is_in_transaction (session_of number all_sessions.sessions) ≡ false → (n : ℕ) → NoneOf names (written n)
unwritten tables written all_sessions number names together free rests n = rw (together.have n, writes_face (session_of n all_sessions.sessions)) (at (n == number) refl) where
  at : (b : Bool) → (n == number) ≡ b → NoneOf names (face_of all_sessions.sessions n).hold.writes
  at true here =
      let busy : (face_of all_sessions.sessions n).busy ≡ false = ap (λ (m : ℕ). (face_of all_sessions.sessions m).busy) (are_one n number here) ∙ sym (busy_face (session_of number all_sessions.sessions)) ∙ rests in
      rw ((together.serves.own n).rests busy) tt
  at false differ =
      none_named (face_of all_sessions.sessions n).hold.names names (face_of all_sessions.sessions n).hold.locks tables (face_of all_sessions.sessions n).hold.writes (together.serves.own n).covered (λ name held. names_granted all_sessions.sessions number n names name free differ held)

pub drop_needs : (tables : Database) (written : ℕ → List RowEvent) (all_sessions : State) (number : ℕ) (name : List ℕ) (request : Request) (prepared : Prepared) → GoTogether tables written all_sessions → MayDo (state_of tables all_sessions) number request prepared → request ≡ requests.Drop name → (n : ℕ) → NoneOf (name ∷ []) (written n)
drop_needs tables written all_sessions number name request prepared together may is =
    let state : State = state_of tables all_sessions in
    let work : AtWork state number (requests.Drop name) = subst (AtWork state number) is (at_work tables written all_sessions number request prepared together may) in
    unwritten tables written all_sessions number (name ∷ []) together work.free.names work.comes

pub rename_needs : (tables : Database) (written : ℕ → List RowEvent) (all_sessions : State) (number : ℕ) (pairs : List Pair) (request : Request) (prepared : Prepared) → GoTogether tables written all_sessions → MayDo (state_of tables all_sessions) number request prepared → request ≡ requests.Rename pairs → (n : ℕ) → NoneOf (pair_names pairs) (written n)
rename_needs tables written all_sessions number pairs request prepared together may is =
    let state : State = state_of tables all_sessions in
    let work : AtWork state number (requests.Rename pairs) = subst (AtWork state number) is (at_work tables written all_sessions number request prepared together may) in
    unwritten tables written all_sessions number (pair_names pairs) together work.free.names work.comes

-- WHO BLOCKS

pub blocker_so : (tables : Database) (written : ℕ → List RowEvent) (all_sessions : State) (number : ℕ) (request : Request) (locks : List Lock) → HaveWritten written all_sessions → locks ≡ row_locks_of (after_events tables (written number)) request
    → blocker all_sessions number (needed request locks) ≡ blocker (state_of tables all_sessions) number (need_within (view number (state_of tables all_sessions)) request)
blocker_so tables written all_sessions number request locks have are =
    ap (λ (l : List Lock). blocker all_sessions number (needed request l)) (are ∙ ap (λ (d : Database). row_locks_of d request) (seen_so tables written all_sessions number have))

pub calls_done : (state : State) (number : ℕ) (request : Request) → blocker state number (need state number request) ≡ None → calls state number request ≡ done state number request
unfolding calls
calls_done state number request free = rw free refl

pub calls_wait : (state : State) (number by : ℕ) (request : Request) → blocker state number (need state number request) ≡ Some by
    → calls state number request ≡ serving (answers.Waits by) (record state { waiting = state.waiting ++ record { session = number; request = request } ∷ []; sessions = with_session number (counting 0) state.sessions })
unfolding calls
calls_wait state number by request blocked = rw blocked refl

-- a request that names a table which isn't locked, where the session holds LOCK TABLES
pub did_outside : (state : State) (number : ℕ) (request : Request) → is_outside (session_of number state.sessions) request ≡ true → did state number request ≡ serving (refuses ER_TABLE_NOT_LOCKED) state
unfolding did
did_outside state number request outside = rw outside refl

pub did_inside : (state : State) (number : ℕ) (request : Request) → is_outside (session_of number state.sessions) request ≡ false
    → did state number request ≡ does (effect_within (is_in_transaction (session_of number state.sessions)) (view number state) state request) state number
unfolding did
did_inside state number request inside = rw inside refl

-- what mentions no table is never outside
inside_none : (locked : List (List ℕ)) → is_beyond locked [] ≡ false
inside_none [] = refl
inside_none (name ∷ locked) = refl

none_outside : (found : Option Session) (request : Request) → tables_named request ≡ [] → is_outside found request ≡ false
none_outside None request none = refl
none_outside (Some session) request none = ap (is_beyond (locked_names session.names)) none ∙ inside_none (locked_names session.names)

free_did : (state : State) (number : ℕ) (request : Request) → tables_named request ≡ [] → did state number request ≡ does (effect_within (is_in_transaction (session_of number state.sessions)) (view number state) state request) state number
free_did state number request none = did_inside state number request (none_outside (session_of number state.sessions) request none)

-- COMMIT, ROLLBACK and UNLOCK TABLES
pub calls_commit : (state : State) (number : ℕ) → calls state number requests.Commit ≡ serving ok (commits number [] state)
calls_commit state number = calls_done state number requests.Commit (nothing_blocks state number false) ∙ free_did state number requests.Commit refl

pub calls_rollback : (state : State) (number : ℕ) → calls state number requests.Rollback ≡ serving ok (forgets number state)
calls_rollback state number = calls_done state number requests.Rollback (nothing_blocks state number false) ∙ free_did state number requests.Rollback refl

pub calls_unlock : (state : State) (number : ℕ) → calls state number requests.Unlock ≡ serving ok (record state { sessions = with_session number unlocking state.sessions })
calls_unlock state number = calls_done state number requests.Unlock (nothing_blocks state number false) ∙ free_did state number requests.Unlock refl

-- POLLS

pub polls_blocked : (state : State) (number by : ℕ) (one : Waiting) → waiting_of number state.waiting ≡ Some one → blocker state number (need state number one.request) ≡ Some by → polls state number ≡ polled_over (is_over state number) by state number
unfolding polls
polls_blocked state number by one waits blocked = rw (waits, blocked) refl

-- a deed does the same where the session's request waits no more
does_ended : (effect : Effect) (state : State) (number : ℕ) → does effect (without_waiting number state) number ≡ serving (does effect state number).answer (without_waiting number (does effect state number).after)
does_ended (Rests answer) state number = refl
does_ended (Grows answer need events) state number = refl
does_ended (Writes answer events) state number = refl
does_ended (Forgets answer) state number = refl
does_ended (Moves answer tables) state number = refl
does_ended (Locks answer names) state number = refl
does_ended (Unlocks answer) state number = refl

within_ended : (busy : Bool) (seen : Database) (state : State) (number : ℕ) (request : Request) → names_in request ≢ [] → effect_within busy seen (without_waiting number state) request ≡ effect_within busy seen state request
within_ended busy seen state number requests.Begin some = refl
within_ended busy seen state number requests.Commit some = refl
within_ended busy seen state number requests.Rollback some = refl
within_ended busy seen state number (requests.Do statement) some = refl
within_ended busy seen state number (requests.Ends table) some = refl
within_ended busy seen state number (requests.ChunkEnd table low top size) some = refl
within_ended busy seen state number (requests.BeginSpan table span size) some = refl
within_ended busy seen state number (requests.CopyRow from into columns key) some = refl
within_ended busy seen state number (requests.LockTables names) some = refl
within_ended busy seen state number requests.Unlock some = refl
within_ended busy seen state number (requests.Create schema) some = refl
within_ended busy seen state number (requests.Drop name) some = refl
within_ended busy seen state number (requests.Rename pairs) some = refl
within_ended busy seen state number requests.LogEnd some = refl
within_ended busy seen state number (requests.ReadLog position limit tables) some = refl
within_ended busy seen state number requests.ShowTables some = refl
within_ended busy seen state number requests.ShowWaiting some = absurd (some refl)
within_ended busy seen state number (requests.ShowCounter table) some = refl
within_ended busy seen state number (requests.SetCounter table least) some = refl

effect_ended : (outside busy : Bool) (seen : Database) (state : State) (number : ℕ) (request : Request) → names_in request ≢ [] → effect_unless outside busy seen (without_waiting number state) request ≡ effect_unless outside busy seen state request
effect_ended true busy seen state number request some = refl
effect_ended false busy seen state number request some = within_ended busy seen state number request some

did_ended : (state : State) (number : ℕ) (request : Request) → names_in request ≢ [] → did (without_waiting number state) number request ≡ serving (did state number request).answer (without_waiting number (did state number request).after)
unfolding did
did_ended state number request some =
    ap (λ (d : Effect). does d (without_waiting number state) number) (effect_ended (is_outside (session_of number state.sessions) request) (is_in_transaction (session_of number state.sessions)) (view number state) state number request some) ∙ does_ended (effect state number request) state number

-- a filled request mentions a table where the one does that was asked
filled_names : (tool : Bool) (tables : Database) (counters : List Counter) (request : Request) → names_in request ≢ [] → names_in (filled_for tool tables counters request) ≢ []
filled_names = filled_case (λ asked full. names_in asked ≢ [] → names_in full ≢ []) (λ r some. some) (λ statement n some none. cc)

done_ended : (state : State) (number : ℕ) (request : Request) → names_in request ≢ [] → done (without_waiting number state) number request ≡ serving (done state number request).answer (without_waiting number (done state number request).after)
done_ended state number request some = did_ended state number (filled state number request) (filled_names (is_of_tool (session_of number state.sessions)) state.tables state.counters request some)

pub polls_done : (state : State) (number : ℕ) (one : Waiting) → waiting_of number state.waiting ≡ Some one → names_in one.request ≢ [] → blocker state number (need state number one.request) ≡ None
    → polls state number ≡ serving (done state number one.request).answer (without_waiting number (done state number one.request).after)
unfolding polls
polls_done state number one waits some free = rw (waits, free) (done_ended state number one.request some)

pub freely_blocked : (state : State) (number : ℕ) (one : Waiting) → waiting_of number state.waiting ≡ Some one → is_freely_polled state number ≡ true → is_some (blocker state number (need state number one.request)) ≡ true
freely_blocked state number one waits free = (and_parts (is_exclusive one.request) (is_some (blocker state number (need state number one.request))) (sym (ap (is_blocked_exclusive state number) waits) ∙ free)).1

pub freely_exclusive : (state : State) (number : ℕ) (one : Waiting) → waiting_of number state.waiting ≡ Some one → is_freely_polled state number ≡ true → is_exclusive one.request ≡ true
freely_exclusive state number one waits free = (and_parts (is_exclusive one.request) (is_some (blocker state number (need state number one.request))) (sym (ap (is_blocked_exclusive state number) waits) ∙ free)).0
