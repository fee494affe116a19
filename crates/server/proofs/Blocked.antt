-- What is known of requests that wait, while the server changes.
use Rattle.std.proofs.Common.{◌≡◌, ℕ, ◌+◌, Bool, true, false, not, ◌&&◌, List, [], ◌∷◌, ◌++◌, map, find, cond, Option, Some, None, option_map, Result, Ok, Err, OnOk, OnErr, refl, sym, ap, ◌∙◌, subst}
use Rattle.std.specs.Prelude.{◌==◌}
use Rattle.std.proofs.lemmas.Bool.{eqb-true, and_parts, true≢false, false≢true}
use Rattle.std.proofs.lemmas.Option.{same_Some}
use Rattle.base_values.specs.declared.event.RowEvent.{RowEvent}
use Rattle.server_locks.specs.LeastSession.Least.{least}
use Rattle.server_locks.specs.declared.row_locks.lock.HeldLock.{HeldLock}
use Rattle.server_locks.specs.MetadataLocks.Grants as grants
use Rattle.server_locks.specs.MetadataLocks.Grants.{blocker_of_names}
use Rattle.server_locks.specs.RowLocks.Grants.{blocker_of_set}
use Rattle.server_locks.specs.RowLocks.LockTable.{held_by}
use Rattle.table_store.specs.Databases.{Database}
use Rattle.server_model.specs.declared.answer.Answer.{Answer}
use Rattle.server_model.specs.declared.request.Request.{Request}
use Rattle.server_model.specs.declared.request.Request.TheVariants as requests
use Rattle.server_model.specs.declared.session.Session.{Session}
use Rattle.server_model.specs.declared.session.Waiting.{Waiting}
use Rattle.server_model.specs.Blockers.{blocker, need, row_locks_of}
use Rattle.server_model.specs.Counting.{counted}
use Rattle.server_model.specs.declared.entry.Asked.TheVariants.{Call}
use Rattle.server_model.specs.Drawing.{filled, filled_for}
use Rattle.server_model.proofs.Filling.{filled_case}
use Rattle.server_model.specs.Effects.{effect_within, is_outside}
use Rattle.server_model.specs.Operations.{after_events}
use Rattle.server_model.specs.PlainServer.{Served, calls, counting, did, does, done, polled_over, recounted, state_left}
use Rattle.server_model.specs.declared.counter.Counter.{Counter}
use Rattle.server_model.specs.States.{State, is_exclusive, is_in_transaction, is_of_tool, locks_held, name_held, names_held, names_in, polls_of, session_of, view, waiters, waiting_of, with_session, writes_of}
use Rattle.server.specs.declared.known_blockers.KnownBlocker.{KnownBlocker}
use Rattle.server.specs.KnownBlockers.{AreBlocked, IsBlockedBy, is_wait}
use Rattle.server.specs.Parts.{state_of, is_look}
use Rattle.server.proofs.Having.{kept_of, kept_writes}
use Rattle.server.proofs.Requests.{calls_done, calls_wait, did_inside, did_outside}

-- what is found is so
pub found_so : (state : State) (session by : ℕ) (known : List KnownBlocker) → AreBlocked state known → option_map (λ (one : KnownBlocker). one.by) (find (λ (one : KnownBlocker). one.session == session) known) ≡ Some by → IsBlockedBy state session by
found_so state session by [] are is = absurd (cc)
found_so state session by (one ∷ known) are is = at (one.session == session) refl (found_so state session by known are.1) is where
  at : (b : Bool) → (one.session == session) ≡ b → (option_map (λ (one : KnownBlocker). one.by) (find (λ (one : KnownBlocker). one.session == session) known) ≡ Some by → IsBlockedBy state session by)
      → option_map (λ (one : KnownBlocker). one.by) (cond b (Some one) (find (λ (one : KnownBlocker). one.session == session) known)) ≡ Some by → IsBlockedBy state session by
  at true here rest is = subst (λ (n : ℕ). IsBlockedBy state n by) (eqb-true one.session session here) (subst (IsBlockedBy state one.session) (same_Some one.by by is) are.0)
  at false here rest is = rest is

pub blocked_by : (state : State) (session by : ℕ) (one : Waiting) → waiting_of session state.waiting ≡ Some one → blocker state session (need state session one.request) ≡ Some by → IsBlockedBy state session by
blocked_by state session by one waits blocked = record { blocks = λ other is. subst (λ (w : Waiting). blocker state session (need state session w.request) ≡ Some by) (same_Some one other (sym waits ∙ is)) blocked }

-- one more is known, or it isn't kept
joined : (state : State) (one : KnownBlocker) (known : List KnownBlocker) → AreBlocked state known → IsBlockedBy state one.session one.by → AreBlocked state (known ++ one ∷ [])
joined state one [] are is = (is, tt)
joined state one (first ∷ known) are is = (are.0, joined state one known are.1 is)

pub noted_so : {A E : Type 0} (result : Result A E) (state : State) (session by : ℕ) (known new : List KnownBlocker) → OnOk result (new ≡ known ++ record { session = session; by = by } ∷ []) → OnErr result (new ≡ known) → AreBlocked state known → IsBlockedBy state session by → AreBlocked state new
noted_so (Ok done) state session by known new ok err are is = rw ok (joined state (record { session = session; by = by }) known are is)
noted_so (Err fault) state session by known new ok err are is = rw err are

-- where nothing changed
pub same_blocked : (state new : State) (known : List KnownBlocker) → new ≡ state → AreBlocked state known → AreBlocked new known
same_blocked state new known same are = rw same are

-- A count of polls blocks nobody.
same_names : (number : ℕ) (change : Session → Session) (sessions : List Session) → ((s : Session) → (change s).number ≡ s.number) → ((s : Session) → (change s).names ≡ s.names) → names_held (with_session number change sessions) ≡ names_held sessions
unfolding with_session
same_names number change [] numbers names = refl
same_names number change (session ∷ sessions) numbers names = at (session.number == number) (same_names number change sessions numbers names) where
  at : (b : Bool) → names_held (with_session number change sessions) ≡ names_held sessions → names_held (cond b (change session ∷ sessions) (session ∷ with_session number change sessions)) ≡ map (name_held session.number) session.names ++ names_held sessions
  at true rest = rw (numbers session, names session) refl
  at false rest = ap (λ (ns : List grants.HeldName). map (name_held session.number) session.names ++ ns) rest

same_locks : (number : ℕ) (change : Session → Session) (sessions : List Session) → ((s : Session) → (change s).number ≡ s.number) → ((s : Session) → (change s).row_locks ≡ s.row_locks) → locks_held (with_session number change sessions) ≡ locks_held sessions
unfolding with_session
same_locks number change [] numbers locks = refl
same_locks number change (session ∷ sessions) numbers locks = at (session.number == number) (same_locks number change sessions numbers locks) where
  at : (b : Bool) → locks_held (with_session number change sessions) ≡ locks_held sessions → locks_held (cond b (change session ∷ sessions) (session ∷ with_session number change sessions)) ≡ map (held_by session.number) session.row_locks ++ locks_held sessions
  at true rest = rw (numbers session, locks session) refl
  at false rest = ap (λ (ls : List HeldLock). map (held_by session.number) session.row_locks ++ ls) rest

-- the blocker by what it depends on
abbrev blocker_by : Database → State → ℕ → Request → List grants.HeldName → List HeldLock → List RowEvent → Option ℕ
blocker_by tables state number request names locks writes = least (blocker_of_names names (waiters state.waiting) number (is_exclusive request) (names_in request)) (blocker_of_set locks number (row_locks_of (after_events tables writes) request))

polls_counted : (tables : Database) (state : State) (number count n : ℕ) (request : Request)
    → blocker (state_of tables (record state { sessions = with_session number (counting count) state.sessions })) n (need (state_of tables (record state { sessions = with_session number (counting count) state.sessions })) n request)
    ≡ blocker (state_of tables state) n (need (state_of tables state) n request)
polls_counted tables state number count n request =
    let later : List Session = with_session number (counting count) state.sessions in
    let full : Request = filled (state_of tables state) n request in
    ap (λ (tool : Bool). blocker_by tables state n (filled_for tool tables state.counters request) (names_held later) (locks_held later) (writes_of (session_of n later))) (sym (kept_of is_of_tool number n (counting count) state.sessions (λ s. refl) (λ s. refl)))
    ∙ (ap (λ (names : List grants.HeldName). blocker_by tables state n full names (locks_held later) (writes_of (session_of n later))) (same_names number (counting count) state.sessions (λ s. refl) (λ s. refl))
    ∙ (ap (λ (locks : List HeldLock). blocker_by tables state n full (names_held state.sessions) locks (writes_of (session_of n later))) (same_locks number (counting count) state.sessions (λ s. refl) (λ s. refl))
    ∙ ap (λ (writes : List RowEvent). blocker_by tables state n full (names_held state.sessions) (locks_held state.sessions) writes) (sym (kept_writes number n (counting count) state.sessions (λ s. refl) (λ s. refl)))))

counts_blocked : (tables : Database) (state : State) (number count : ℕ) (known : List KnownBlocker) → AreBlocked (state_of tables state) known → AreBlocked (state_of tables (record state { sessions = with_session number (counting count) state.sessions })) known
counts_blocked tables state number count [] are = tt
counts_blocked tables state number count (one ∷ known) are = (record { blocks = λ waiting waits. polls_counted tables state number count one.session waiting.request ∙ are.0.blocks waiting waits }, counts_blocked tables state number count known are.1)

pub polled_blocked : (over : Bool) (tables : Database) (all_sessions new : State) (number by : ℕ) (known : List KnownBlocker) → over ≡ false → new ≡ (polled_over over by all_sessions number).after → AreBlocked (state_of tables all_sessions) known → AreBlocked (state_of tables new) known
polled_blocked true tables all_sessions new number by known goes_on polled are = absurd (true≢false goes_on)
polled_blocked false tables all_sessions new number by known goes_on polled are = rw polled (counts_blocked tables all_sessions number (polls_of (session_of number all_sessions.sessions) + 1) known are)

-- A request that looks changes nothing, where it needn't wait.
within_looks : (busy : Bool) (seen : Database) (state : State) (number : ℕ) (request : Request) → is_look request ≡ true → (does (effect_within busy seen state request) state number).after ≡ state
within_looks busy seen state number (requests.Ends table) look = refl
within_looks busy seen state number (requests.ChunkEnd table low top size) look = refl
within_looks busy seen state number requests.LogEnd look = refl
within_looks busy seen state number (requests.ReadLog position limit tables) look = refl
within_looks busy seen state number requests.ShowTables look = refl
within_looks busy seen state number requests.ShowWaiting look = refl
within_looks busy seen state number (requests.ShowCounter table) look = refl
within_looks busy seen state number requests.Begin look = absurd (false≢true look)
within_looks busy seen state number requests.Commit look = absurd (false≢true look)
within_looks busy seen state number requests.Rollback look = absurd (false≢true look)
within_looks busy seen state number (requests.Do statement) look = absurd (false≢true look)
within_looks busy seen state number (requests.BeginSpan table span size) look = absurd (false≢true look)
within_looks busy seen state number (requests.CopyRow from into columns key) look = absurd (false≢true look)
within_looks busy seen state number (requests.LockTables names) look = absurd (false≢true look)
within_looks busy seen state number requests.Unlock look = absurd (false≢true look)
within_looks busy seen state number (requests.Create schema) look = absurd (false≢true look)
within_looks busy seen state number (requests.Drop name) look = absurd (false≢true look)
within_looks busy seen state number (requests.Rename pairs) look = absurd (false≢true look)
within_looks busy seen state number (requests.SetCounter table least) look = absurd (false≢true look)

filled_looks : (tool : Bool) (tables : Database) (counters : List Counter) (request : Request) → is_look request ≡ true → filled_for tool tables counters request ≡ request
filled_looks = filled_case (λ asked full. is_look asked ≡ true → full ≡ asked) (λ r look. refl) (λ statement n look. absurd (false≢true look))

-- ... and moves no counter.
counted_looks : (state : State) (number : ℕ) (request : Request) (answer : Answer) → is_look request ≡ true → counted state number (Some request) answer ≡ state.counters
unfolding counted
counted_looks state number (requests.Do statement) answer look = absurd (false≢true look)
counted_looks state number (requests.Create schema) answer look = absurd (false≢true look)
counted_looks state number (requests.Drop name) answer look = absurd (false≢true look)
counted_looks state number (requests.Rename pairs) answer look = absurd (false≢true look)
counted_looks state number (requests.SetCounter table least) answer look = absurd (false≢true look)
counted_looks state number request answer look = refl

done_looks : (state : State) (number : ℕ) (request : Request) → is_look request ≡ true → (done state number request).after ≡ state
done_looks state number request look = rw (filled_looks (is_of_tool (session_of number state.sessions)) state.tables state.counters request look) (at (is_outside (session_of number state.sessions) request) refl) where
  at : (b : Bool) → is_outside (session_of number state.sessions) request ≡ b → (did state number request).after ≡ state
  at true outside = rw (did_outside state number request outside) refl
  at false inside = rw (did_inside state number request inside) (within_looks (is_in_transaction (session_of number state.sessions)) (view number state) state number request look)

looks : (state : State) (number : ℕ) (request : Request) → is_look request ≡ true → is_wait (calls state number request).answer ≡ false → (calls state number request).after ≡ state
looks state number request look quick = at (blocker state number (need state number request)) refl where
  at : (found : Option ℕ) → blocker state number (need state number request) ≡ found → (calls state number request).after ≡ state
  at None free = rw (calls_done state number request free) (done_looks state number request look)
  at (Some by) blocked = absurd (true≢false (sym (ap (λ (served : Served). is_wait served.answer) (calls_wait state number by request blocked)) ∙ quick))

not_true : (b : Bool) → not b ≡ true → b ≡ false
not_true true is = absurd (false≢true is)
not_true false is = refl

pub looked_blocked : (state new : State) (number : ℕ) (request : Request) (answer : Answer) (known : List KnownBlocker) → (is_look request && not (is_wait answer)) ≡ true → answer ≡ (calls state number request).answer → new ≡ state_left None state number (Call request) → AreBlocked state known → AreBlocked new known
looked_blocked state new number request answer known looked answered after are =
    let parts = and_parts (is_look request) (not (is_wait answer)) looked in
    let quick : is_wait (calls state number request).answer ≡ false = sym (ap is_wait answered) ∙ not_true (is_wait answer) parts.1 in
    let moved : state_left None state number (Call request) ≡ (calls state number request).after =
    ap (λ (counters : List Counter). recounted counters (calls state number request).after) (counted_looks state number request (calls state number request).answer parts.0 ∙ ap (λ (s : State). s.counters) (sym (looks state number request parts.0 quick))) in
    same_blocked state new known (after ∙ (moved ∙ looks state number request parts.0 quick)) are
