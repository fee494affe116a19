-- While nobody asks for a table's name exclusively, nobody waits for it, nor is made to wait: what one turn of the server
-- leaves of that.
use Rattle.server_model.specs.States.{is_of_tool}
use Rattle.server_model.proofs.Filling.{filled_case}
use Rattle.server_model.specs.Drawing.{numbered}
use Rattle.std.proofs.Common.{◌≡◌, ℕ, Bool, true, false, not, ◌&&◌, ◌||◌, List, [], ◌∷◌, ◌++◌, map, cond, Option, Some, None, Result, Ok, Err, refl, sym, subst}
use Rattle.std.specs.Prelude.{◌==◌, is_some}
use Rattle.std.specs.List.{AllByRecursion, list_any}
use Rattle.std.specs.Str.{bytes_eq}
use Rattle.std.specs.Cmp.Lexicographic.{pointwise}
use Rattle.std.specs.Prelude.{nat_eq}
use Rattle.std.proofs.lemmas.Bool.{true≢false, false≢true, not-true, or_parts}
use Rattle.base_values.proofs.SchemaRules.Lists.{All-append, All-filter}
use Rattle.base_script.specs.declared.actor.Side.{Side}
use Rattle.base_script.specs.declared.actor.Side.TheVariants.{Before, After}
use Rattle.base_values.specs.declared.value.Value.{Value}
use Rattle.base_values.specs.declared.span.Bound.{Bound}
use Rattle.base_values.specs.declared.span.Span.{Span}
use Rattle.server_locks.specs.MetadataLocks.Grants as grants
use Rattle.server_locks.specs.MetadataLocks.Grants.{has_name, is_on, holds, holding_session, least_holder, waiting_session, least_waiter, blocker_of_name, blocker_of_names}
use Rattle.server_locks.specs.declared.metadata_locks.request.Waiter.{Waiter}
use Rattle.server_locks.specs.RowLocks.Grants.{blocker_of_set}
use Rattle.table_store.specs.Databases.{TableRows, Database, find_table, has_table, rename_tables}
use Rattle.server_model.specs.declared.entry.Asked.{Asked}
use Rattle.server_model.specs.declared.entry.Asked.TheVariants.{Call, Poll, Command, Cut}
use Rattle.server_model.specs.declared.entry.Entry.{Entry}
use Rattle.server_model.specs.declared.need.Need.{Need}
use Rattle.server_model.specs.declared.request.Request.{Request}
use Rattle.server_model.specs.declared.request.Request.TheVariants as requests
use Rattle.server_model.specs.declared.session.HeldName.{HeldName}
use Rattle.server_model.specs.declared.session.Session.{Session}
use Rattle.server_model.specs.declared.session.Waiting.{Waiting}
use Rattle.server_model.specs.declared.work.StatementResult.{StatementResult}
use Rattle.server_model.specs.Effects.{Effect, Rests, Grows, Writes, Forgets, Moves, Locks, Unlocks, result_effect, begins, created, dropped, renamed_or, defined, effect_unless, effect, is_outside}
use Rattle.server_model.specs.Entries.{is_client, is_command}
use Rattle.server_model.specs.Operations.{copy_operation, operation_result, statement_result}
use Rattle.server_model.specs.Blockers.{need_within, need, blocker}
use Rattle.server_model.specs.PlainServer.{shared, holding, at_rest, unlocking, counting, does, done, did, without_waiting, called_unless, calls, is_over, polled_over, polled_unless, polled_of, polls, loses, serves, leaves}
use Rattle.server_model.specs.States.{State, with_session, session_of, new_session, connected, kept_names, shared_names, name_held, names_held, waiting_of, waits_for, waiters, names_in, is_exclusive, is_in_transaction, view}
use Rattle.tool_program.specs.JournalWords.Journals.{opens, opens_if, after_entry}
use Rattle.proof_journals.proofs.Waiting.{IsDone, done_answers}
use Rattle.proof_journals.proofs.Sentry.Holding.{both_none}
use Rattle.server_model.proofs.LockedRows.Tests.{turned_bytes}
use Rattle.proof_journals.proofs.Machine.Schemas.{keeps_table}

-- the request locks tables, or one table for its turn alone, to set its counter
abbrev pub is_lock : Request → Bool
is_lock (requests.LockTables names) = true
is_lock (requests.SetCounter table least) = true
is_lock request = false

-- the request doesn't ask for the table's name exclusively
pub record Spares (table : List ℕ) (request : Request) : Type 0 where
  pub keeps : keeps_table table request ≡ true
  pub unlocks : is_lock request ≡ false

-- the session holds no name exclusively
abbrev pub Shares : Session → Type 0
Shares session = list_any (λ (one : HeldName). one.exclusive) session.names ≡ false

-- so no session does, and what waits doesn't ask for the table's
pub record IsSpared (table : List ℕ) (state : State) : Type 0 where
  pub sessions : AllByRecursion Shares state.sessions
  pub waiting : AllByRecursion (λ (one : Waiting). Spares table one.request) state.waiting

-- A CHANGE OF ONE SESSION

all_with : (P : Session → Type 0) (number : ℕ) (change : Session → Session) → ((s : Session) → P s → P (change s)) → (sessions : List Session) → AllByRecursion P sessions → AllByRecursion P (with_session number change sessions)
unfolding with_session
all_with P number change keeps [] all = tt
all_with P number change keeps (first ∷ sessions) all = by (first.number == number) (all_with P number change keeps sessions all.1) where
  by : (b : Bool) → AllByRecursion P (with_session number change sessions) → AllByRecursion P (cond b (change first ∷ sessions) (first ∷ with_session number change sessions))
  by true rest = (keeps first all.0, all.1)
  by false rest = (all.0, rest)

abbrev none_exclusive : List HeldName → Type 0
none_exclusive names = list_any (λ (one : HeldName). one.exclusive) names ≡ false

shared_more : (names : List HeldName) (more : List (List ℕ)) → none_exclusive names → none_exclusive (names ++ map shared more)
shared_more [] [] none = refl
shared_more [] (name ∷ more) none = shared_more [] more refl
shared_more (first ∷ names) more none = by first.exclusive none (shared_more names more) where
  by : (b : Bool) → (b || list_any (λ (one : HeldName). one.exclusive) names) ≡ false → (none_exclusive names → none_exclusive (names ++ map shared more)) → (b || list_any (λ (one : HeldName). one.exclusive) (names ++ map shared more)) ≡ false
  by true none rest = absurd (true≢false none)
  by false none rest = rest none

kept_shared : (names : List HeldName) → none_exclusive names → none_exclusive (kept_names names)
kept_shared [] none = refl
kept_shared (first ∷ names) none = by first.exclusive refl none (kept_shared names) where
  by : (b : Bool) → first.exclusive ≡ b → (b || list_any (λ (one : HeldName). one.exclusive) names) ≡ false → (none_exclusive names → none_exclusive (kept_names names)) → none_exclusive (cond b (first ∷ kept_names names) (kept_names names))
  by true is none rest = absurd (true≢false none)
  by false is none rest = rest none

shared_shared : (names : List HeldName) → none_exclusive names → none_exclusive (shared_names names)
shared_shared [] none = refl
shared_shared (first ∷ names) none = by first.exclusive refl none (shared_shared names) where
  by : (b : Bool) → first.exclusive ≡ b → (b || list_any (λ (one : HeldName). one.exclusive) names) ≡ false → (none_exclusive names → none_exclusive (shared_names names)) → none_exclusive (cond (not b) (first ∷ shared_names names) (shared_names names))
  by true is none rest = absurd (true≢false none)
  by false is none rest = rw is (rest none)

-- WHAT A DEED LEAVES

abbrev NotLocks : Effect → Type 0
NotLocks (Locks answer names) = ⊥
NotLocks effect = Unit {0}

module _ (table : List ℕ) where
  does_spared : (one : Effect) (state : State) (number : ℕ) → NotLocks one → IsSpared table state → IsSpared table (does one state number).after
  does_spared (Rests answer) state number off is = is
  does_spared (Grows answer need events) state number off is = record { sessions = all_with Shares number (holding need events) (λ s none. shared_more s.names need.names none) state.sessions is.sessions; waiting = is.waiting }
  does_spared (Writes answer events) state number off is = record { sessions = all_with Shares number at_rest (λ s none. kept_shared s.names none) state.sessions is.sessions; waiting = is.waiting }
  does_spared (Forgets answer) state number off is = record { sessions = all_with Shares number at_rest (λ s none. kept_shared s.names none) state.sessions is.sessions; waiting = is.waiting }
  does_spared (Moves answer tables) state number off is = record { sessions = is.sessions; waiting = is.waiting }
  does_spared (Locks answer names) state number off is = absurd off
  does_spared (Unlocks answer) state number off is = record { sessions = all_with Shares number unlocking (λ s none. shared_shared s.names none) state.sessions is.sessions; waiting = is.waiting }

  resulted : (busy : Bool) (need : Need) (result : StatementResult) → NotLocks (result_effect busy need result)
  resulted true need result = tt
  resulted false need result = tt

  begun : (found : Option TableRows) (span : Span) (size : ℕ) (need : Need) → NotLocks (begins found span size need)
  begun None span size need = tt
  begun (Some one) span size need = tt

  made : (result : Result Database ℕ) → NotLocks (defined result)
  made (Ok tables) = tt
  made (Err number) = tt

  effect_unlocks : (outside busy : Bool) (seen : Database) (state : State) (request : Request) → is_lock request ≡ false → NotLocks (effect_unless outside busy seen state request)
  effect_unlocks true busy seen state request none = tt
  effect_unlocks false busy seen state requests.Begin none = tt
  effect_unlocks false busy seen state requests.Commit none = tt
  effect_unlocks false busy seen state requests.Rollback none = tt
  effect_unlocks false busy seen state (requests.Do statement) none = resulted busy (need_within seen (requests.Do statement)) (statement_result seen statement)
  effect_unlocks false busy seen state (requests.Ends name) none = tt
  effect_unlocks false busy seen state (requests.ChunkEnd name low top size) none = tt
  effect_unlocks false busy seen state (requests.BeginSpan name span size) none = begun (find_table name state.tables) span size (need_within seen (requests.BeginSpan name span size))
  effect_unlocks false busy seen state (requests.CopyRow from into columns key) none = resulted busy (need_within seen (requests.CopyRow from into columns key)) (operation_result seen (copy_operation seen from into columns key))
  effect_unlocks false busy seen state (requests.LockTables names) none = absurd (true≢false none)
  effect_unlocks false busy seen state requests.Unlock none = tt
  effect_unlocks false busy seen state (requests.Create schema) none = made (created (has_table schema.name state.tables) schema state.tables)
  effect_unlocks false busy seen state (requests.Drop name) none = made (dropped (has_table name state.tables) name state.tables)
  effect_unlocks false busy seen state (requests.Rename pairs) none = made (renamed_or (rename_tables pairs state.tables))
  effect_unlocks false busy seen state requests.LogEnd none = tt
  effect_unlocks false busy seen state (requests.ReadLog position limit tables) none = tt
  effect_unlocks false busy seen state requests.ShowTables none = tt
  effect_unlocks false busy seen state requests.ShowWaiting none = tt
  effect_unlocks false busy seen state (requests.ShowCounter table) none = tt
  effect_unlocks false busy seen state (requests.SetCounter table least) none = tt

  did_spared : (state : State) (number : ℕ) (request : Request) → is_lock request ≡ false → IsSpared table state → IsSpared table (did state number request).after
  unfolding did
  did_spared state number request none is =
      does_spared (effect state number request) state number (effect_unlocks (is_outside (session_of number state.sessions) request) (is_in_transaction (session_of number state.sessions)) (view number state) state request none) is

  done_spared : (state : State) (number : ℕ) (request : Request) → is_lock request ≡ false → IsSpared table state → IsSpared table (done state number request).after
  done_spared state number request none is =
      filled_case (λ asked full. is_lock asked ≡ false → IsSpared table (did state number full).after) (λ r off. did_spared state number r off is) (λ statement n off. did_spared state number (requests.Do (numbered n statement)) off is)
      (is_of_tool (session_of number state.sessions)) state.tables state.counters request none

  -- CALLS, POLLS AND LOSSES

  unwaited : (state : State) (number : ℕ) → IsSpared table state → IsSpared table (without_waiting number state)
  unwaited state number is = record { sessions = is.sessions; waiting = All-filter (λ (one : Waiting). Spares table one.request) (λ (one : Waiting). not (one.session == number)) state.waiting is.waiting }

  calls_spared : (state : State) (number : ℕ) (request : Request) → Spares table request → IsSpared table state → IsSpared table (calls state number request).after
  unfolding calls
  calls_spared state number request spares is = by (blocker state number (need state number request)) where
    by : (blocked : Option ℕ) → IsSpared table (called_unless blocked state number request).after
    by None = done_spared state number request spares.unlocks is
    by (Some other) = record {
      sessions = all_with Shares number (counting 0) (λ s none. none) state.sessions is.sessions;
      waiting = All-append (λ (one : Waiting). Spares table one.request) state.waiting (record { session = number; request = request } ∷ []) is.waiting (spares, tt);
    }

  found_spares : (number : ℕ) (waiting : List Waiting) (found : Waiting) → AllByRecursion (λ (one : Waiting). Spares table one.request) waiting → waiting_of number waiting ≡ Some found → Spares table found.request
  found_spares number [] found all is = absurd cc
  found_spares number (first ∷ waiting) found all is = by (first.session == number) is (found_spares number waiting found all.1) where
    by : (b : Bool) → cond b (Some first) (waiting_of number waiting) ≡ Some found → (waiting_of number waiting ≡ Some found → Spares table found.request) → Spares table found.request
    by true same rest = let one : first ≡ found = cc in subst (λ (w : Waiting). Spares table w.request) one all.0
    by false same rest = rest same

  polls_spared : (state : State) (number : ℕ) → IsSpared table state → IsSpared table (polls state number).after
  unfolding polls
  polls_spared state number is = by (waiting_of number state.waiting) refl where
    over : (b : Bool) (other : ℕ) → IsSpared table (polled_over b other state number).after
    over true other = record { sessions = all_with Shares number at_rest (λ s none. kept_shared s.names none) state.sessions is.sessions; waiting = (unwaited state number is).waiting }
    over false other = record { sessions = all_with Shares number (counting _) (λ s none. none) state.sessions is.sessions; waiting = is.waiting }

    unless : (request : Request) → Spares table request → (blocked : Option ℕ) → IsSpared table (polled_unless blocked state number request).after
    unless request spares None = done_spared (without_waiting number state) number request spares.unlocks (unwaited state number is)
    unless request spares (Some other) = over (is_over state number) other

    by : (found : Option Waiting) → waiting_of number state.waiting ≡ found → IsSpared table (polled_of found state number).after
    by None none = is
    by (Some found) some = unless found.request (found_spares number state.waiting found is.waiting some) (blocker state number (need state number found.request))

  loses_spared : (state : State) (number : ℕ) → IsSpared table state → IsSpared table (loses number state)
  unfolding loses
  loses_spared state number is = record { sessions = All-filter Shares (λ (s : Session). not (s.number == number)) state.sessions is.sessions; waiting = (unwaited state number is).waiting }

  serves_spared : (state : State) (number : ℕ) (asked : Asked) → ((request : Request) → asked ≡ Call request → Spares table request) → IsSpared table state → IsSpared table (serves state number asked).after
  serves_spared state number (Call request) spares is = calls_spared state number request (spares request refl) is
  serves_spared state number Poll spares is = polls_spared state number is
  serves_spared state number (Command word) spares is = is
  serves_spared state number Cut spares is = loses_spared state number is

  leaves_spared : (side : Option Side) (state : State) (number : ℕ) (asked : Asked) → ((request : Request) → asked ≡ Call request → Spares table request) → IsSpared table state → IsSpared table (leaves side state number asked)
  leaves_spared None state number asked spares is = serves_spared state number asked spares is
  leaves_spared (Some Before) state number asked spares is = loses_spared state number is
  leaves_spared (Some After) state number asked spares is = loses_spared (serves state number asked).after number (serves_spared state number asked spares is)

  pub opened_spared : (nothing tool : Bool) (number : ℕ) (state : State) → IsSpared table state → IsSpared table (opens_if nothing tool number state)
  unfolding opens_if
  opened_spared nothing tool number state is = by (nothing || is_some (session_of number state.sessions)) where
    by : (b : Bool) → IsSpared table (cond b state (connected number tool state))
    by true = is
    by false = record { sessions = All-append Shares state.sessions (new_session number tool ∷ []) is.sessions (refl, tt); waiting = is.waiting }

  -- *One turn more*
  pub turn_spared : (state : State) (entry : Entry) → ((request : Request) → entry.asked ≡ Call request → Spares table request) → IsSpared table state → IsSpared table (after_entry state entry)
  turn_spared state entry spares is =
      let one = leaves_spared entry.side (opens entry state) entry.session entry.asked spares (opened_spared (is_command entry.asked) (not (is_client entry.actor)) entry.session state is) in
      record { sessions = one.sessions; waiting = one.waiting }

-- NOBODY IS MADE TO WAIT

-- a name that isn't held exclusively
not_held : (number other : ℕ) (name : List ℕ) (first : HeldName) → first.exclusive ≡ false → holding_session number name true (name_held other first) ≡ None
not_held number other name first none = by first.exclusive none (not (other == number)) (pointwise nat_eq first.name name) where
  by : (e : Bool) → e ≡ false → (a b : Bool) → cond (a && (b && (e || false))) (Some other) None ≡ None
  by true is a b = absurd (true≢false is)
  by false is true true = refl
  by false is true false = refl
  by false is false b = refl

session_free : (names : List HeldName) (number other : ℕ) (name : List ℕ) (following : List grants.HeldName) → none_exclusive names → least_holder following number name true ≡ None → least_holder (map (name_held other) names ++ following) number name true ≡ None
unfolding least_holder
session_free [] number other name following none rest = rest
session_free (first ∷ names) number other name following none rest =
    let parts = or_parts first.exclusive (list_any (λ (one : HeldName). one.exclusive) names) none in
    both_none (holding_session number name true (name_held other first)) (least_holder (map (name_held other) names ++ following) number name true) (not_held number other name first parts.0) (session_free names number other name following parts.1 rest)

none_holds : (sessions : List Session) (number : ℕ) (name : List ℕ) → AllByRecursion Shares sessions → least_holder (names_held sessions) number name true ≡ None
unfolding least_holder
none_holds [] number name all = refl
none_holds (session ∷ sessions) number name all = session_free session.names number session.number name (names_held sessions) all.0 (none_holds sessions number name all.1)

-- what waits exclusively waits for other names
names_other : (table : List ℕ) (request : Request) → Spares table request → is_exclusive request ≡ true → has_name (names_in request) table ≡ false
names_other table (requests.LockTables names) spares exclusive = absurd (true≢false spares.unlocks)
names_other table (requests.Create schema) spares exclusive = rw (not-true (bytes_eq schema.name table) spares.keeps) refl
names_other table (requests.Drop name) spares exclusive = rw (turned_bytes table name (not-true (bytes_eq table name) spares.keeps)) refl
names_other table (requests.Rename pairs) spares exclusive = absurd (false≢true spares.keeps)
names_other table (requests.SetCounter other least) spares exclusive = absurd (true≢false spares.unlocks)
names_other table request spares exclusive = absurd (false≢true exclusive)

one_waits : (table : List ℕ) (number : ℕ) (one : Waiting) (following : List Waiter) → Spares table one.request → least_waiter following number table ≡ None → least_waiter (waits_for one ++ following) number table ≡ None
unfolding least_waiter
one_waits table number one following spares rest = by (is_exclusive one.request) refl where
  off : (a b : Bool) → b ≡ false → cond (a && b) (Some one.session) None ≡ None
  off true true is = absurd (true≢false is)
  off true false is = refl
  off false b is = refl

  by : (b : Bool) → is_exclusive one.request ≡ b → least_waiter (cond b (record { session = one.session; names = names_in one.request } ∷ []) [] ++ following) number table ≡ None
  by true exclusive =
      both_none (waiting_session number table (record { session = one.session; names = names_in one.request })) (least_waiter following number table)
      (off (not (one.session == number)) (has_name (names_in one.request) table) (names_other table one.request spares exclusive)) rest
  by false shares = rest

none_waits : (table : List ℕ) (waiting : List Waiting) (number : ℕ) → AllByRecursion (λ (one : Waiting). Spares table one.request) waiting → least_waiter (waiters waiting) number table ≡ None
unfolding least_waiter
none_waits table [] number all = refl
none_waits table (one ∷ waiting) number all = one_waits table number one (waiters waiting) all.0 (none_waits table waiting number all.1)

-- a shared lock on the table's name is granted
pub shared_free : (table : List ℕ) (state : State) (number : ℕ) → IsSpared table state → blocker_of_names (names_held state.sessions) (waiters state.waiting) number false (table ∷ []) ≡ None
unfolding blocker_of_names blocker_of_name
shared_free table state number is =
    both_none (blocker_of_name (names_held state.sessions) (waiters state.waiting) number table false) None
    (both_none (least_holder (names_held state.sessions) number table true) _ (none_holds state.sessions number table is.sessions) (by (holds (names_held state.sessions) number table false))) refl where
      by : (b : Bool) → cond b None (least_waiter (waiters state.waiting) number table) ≡ None
      by true = refl
      by false = none_waits table state.waiting number is.waiting

-- *Where a chunk ends is answered at once*
pub ends_at_once : (table : List ℕ) (state : State) (number : ℕ) (low : Bound) (top : List Value) (size : ℕ) → IsSpared table state → IsDone (calls state number (requests.ChunkEnd table low top size)).answer
unfolding calls blocker_of_set
ends_at_once table state number low top size is =
    subst (λ (blocked : Option ℕ). IsDone (called_unless blocked state number (requests.ChunkEnd table low top size)).answer)
    (sym (both_none (blocker_of_names (names_held state.sessions) (waiters state.waiting) number false (table ∷ [])) None (shared_free table state number is) refl)) (done_answers state number (requests.ChunkEnd table low top size))
