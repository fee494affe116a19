-- Nobody blocks a request for names that no other session holds or waits for; and no session waits with two requests.
use Rattle.server_model.specs.Drawing.{filled}
use Rattle.std.proofs.Common.{◌≡◌, ℕ, Bool, true, false, not, ◌&&◌, ◌||◌, List, [], ◌∷◌, ◌++◌, map, filter, cond, Option, Some, None, refl, sym, ap, ◌∙◌, subst}
use Rattle.std.specs.Prelude.{◌==◌}
use Rattle.std.specs.List.{AllByRecursion}
use Rattle.std.specs.Option.{option_map}
use Rattle.std.specs.Str.{bytes_eq}
use Rattle.std.proofs.lemmas.Bool.{true≢false}
use Rattle.base_script.specs.declared.actor.Side.{Side}
use Rattle.base_script.specs.declared.actor.Side.TheVariants.{Before, After}
use Rattle.base_values.proofs.SchemaRules.Lists.{All-append}
use Rattle.server_locks.specs.declared.metadata_locks.request.Waiter.{Waiter}
use Rattle.server_locks.specs.declared.row_locks.lock.HeldLock.{HeldLock}
use Rattle.server_locks.specs.declared.row_locks.lock.Lock.{Lock}
use Rattle.server_locks.specs.LeastSession.Least.{least}
use Rattle.server_locks.specs.MetadataLocks.Grants as grants
use Rattle.server_locks.specs.MetadataLocks.Grants.{has_name, holds, holding_session, least_holder, waiting_session, least_waiter, QueuePlace, place_of, before, ahead_of, blocker_of_name, blocker_of_names}
use Rattle.server_locks.specs.RowLocks.Grants.{conflict, refusal, blocker_of_lock, blocker_of_set}
use Rattle.server_locks.specs.RowLocks.LockTable.{held_by}
use Rattle.server_model.specs.declared.entry.Asked.{Asked}
use Rattle.server_model.specs.declared.entry.Asked.TheVariants.{Call, Poll, Command, Cut}
use Rattle.server_model.specs.declared.request.Request.{Request}
use Rattle.server_model.specs.declared.session.HeldName.{HeldName}
use Rattle.server_model.specs.declared.session.Session.{Session}
use Rattle.server_model.specs.declared.session.Waiting.{Waiting}
use Rattle.server_model.specs.Blockers.{row_locks_of, need, blocker}
use Rattle.server_model.specs.PlainServer.{without_waiting, called_unless, calls, is_over, polled_over, polled_unless, polled_of, polls, loses, serves, leaves}
use Rattle.server_model.specs.States.{State, session_of, name_held, names_held, locks_held, waiting_of, waits_for, waiters, names_in, is_exclusive, view}
use Rattle.server_model.proofs.LockedRows.Tests.{same_number, are_one}
use Rattle.proof_journals.proofs.Journals.{done_waits}
use Rattle.proof_journals.proofs.Sentry.Holding.{both_none}
use Rattle.proof_journals.proofs.Waiting.{filter_there}
use Rattle.proof_migration.proofs.Program.LockerTurns.Apart.{IsApart}
use Rattle.proof_migration.proofs.HeldNames.SessionNames.{WithinIn, filled_names, locks_on}

-- NO SESSION WAITS TWICE

abbrev pub WaitsApart : List Waiting → Type 0
WaitsApart [] = Unit {0}
WaitsApart (one ∷ waiting) = (waiting_of one.session waiting ≡ None) × WaitsApart waiting

apart_less : (number : ℕ) (waiting : List Waiting) → WaitsApart waiting → WaitsApart (filter (λ (one : Waiting). not (one.session == number)) waiting)
apart_less number [] apart = tt
apart_less number (one ∷ waiting) apart = by (one.session == number) refl (apart_less number waiting apart.1) where
  by : (b : Bool) → (one.session == number) ≡ b → WaitsApart (filter (λ (one : Waiting). not (one.session == number)) waiting)
      → WaitsApart (cond (not b) (one ∷ filter (λ (one : Waiting). not (one.session == number)) waiting) (filter (λ (one : Waiting). not (one.session == number)) waiting))
  by true here rest = rest
  by false there rest = (filter_there number one.session waiting there ∙ apart.0, rest)

none_more : (n : ℕ) (waiting : List Waiting) (one : Waiting) → waiting_of n waiting ≡ None → (one.session == n) ≡ false → waiting_of n (waiting ++ one ∷ []) ≡ None
none_more n [] one none differ = rw differ refl
none_more n (first ∷ waiting) one none differ = by (first.session == n) none (none_more n waiting one) where
  by : (b : Bool) → cond b (Some first) (waiting_of n waiting) ≡ None → (waiting_of n waiting ≡ None → (one.session == n) ≡ false → waiting_of n (waiting ++ one ∷ []) ≡ None) → cond b (Some first) (waiting_of n (waiting ++ one ∷ [])) ≡ None
  by true none rest = absurd cc
  by false none rest = rest none differ

apart_more : (waiting : List Waiting) (one : Waiting) → WaitsApart waiting → waiting_of one.session waiting ≡ None → WaitsApart (waiting ++ one ∷ [])
apart_more [] one apart none = (refl, tt)
apart_more (first ∷ waiting) one apart none = by (first.session == one.session) refl none (apart_more waiting one apart.1) where
  turned : (a b : ℕ) (same : Bool) → (b == a) ≡ same → (a == b) ≡ false → (b == a) ≡ false
  turned a b false is differ = is
  turned a b true is differ = absurd (true≢false (sym (ap (λ (n : ℕ). n == b) (sym (are_one b a is)) ∙ same_number b) ∙ differ))

  by : (b : Bool) → (first.session == one.session) ≡ b → cond b (Some first) (waiting_of one.session waiting) ≡ None → (waiting_of one.session waiting ≡ None → WaitsApart (waiting ++ one ∷ [])) → WaitsApart (first ∷ (waiting ++ one ∷ []))
  by true here none rest = absurd cc
  by false there none rest = (none_more first.session waiting one apart.0 (turned first.session one.session (one.session == first.session) refl there), rest none)

module _ (state : State) (number : ℕ) where
  calls_apart : (request : Request) → waiting_of number state.waiting ≡ None → WaitsApart state.waiting → WaitsApart (calls state number request).after.waiting
  unfolding calls
  calls_apart request none apart = by (blocker state number (need state number request)) where
    by : (blocked : Option ℕ) → WaitsApart (called_unless blocked state number request).after.waiting
    by None = subst WaitsApart (sym (done_waits state number request)) apart
    by (Some other) = apart_more state.waiting (record { session = number; request = request }) apart none

  polls_apart : WaitsApart state.waiting → WaitsApart (polls state number).after.waiting
  unfolding polls
  polls_apart apart = by (waiting_of number state.waiting) where
    over : (b : Bool) (other : ℕ) → WaitsApart (polled_over b other state number).after.waiting
    over true other = apart_less number state.waiting apart
    over false other = apart

    unless : (request : Request) (blocked : Option ℕ) → WaitsApart (polled_unless blocked state number request).after.waiting
    unless request None = subst WaitsApart (sym (done_waits (without_waiting number state) number request)) (apart_less number state.waiting apart)
    unless request (Some other) = over (is_over state number) other

    by : (found : Option Waiting) → WaitsApart (polled_of found state number).after.waiting
    by None = apart
    by (Some found) = unless found.request (blocker state number (need state number found.request))

  serves_apart : (asked : Asked) → ((request : Request) → asked ≡ Call request → waiting_of number state.waiting ≡ None) → WaitsApart state.waiting → WaitsApart (serves state number asked).after.waiting
  unfolding loses
  serves_apart (Call request) idle apart = calls_apart request (idle request refl) apart
  serves_apart Poll idle apart = polls_apart apart
  serves_apart (Command word) idle apart = apart
  serves_apart Cut idle apart = apart_less number state.waiting apart

  -- *A turn keeps it so*
  pub leaves_apart : (side : Option Side) (asked : Asked) → ((request : Request) → asked ≡ Call request → waiting_of number state.waiting ≡ None) → WaitsApart state.waiting → WaitsApart (leaves side state number asked).waiting
  unfolding loses
  leaves_apart None asked idle apart = serves_apart asked idle apart
  leaves_apart (Some Before) asked idle apart = apart_less number state.waiting apart
  leaves_apart (Some After) asked idle apart = apart_less number (serves state number asked).after.waiting (serves_apart asked idle apart)

-- A NAME THAT IS FREE

abbrev pub Off : List ℕ → List ℕ → Type 0
Off name other = bytes_eq other name ≡ false

abbrev pub WaitsOff : List ℕ → Option Waiting → Type 0
WaitsOff name None = Unit {0}
WaitsOff name (Some one) = has_name (names_in one.request) name ≡ false

-- no session but this one holds the name, nor waits for it
pub record IsFreeName (state : State) (number : ℕ) (name : List ℕ) : Type 0 where
  pub held : (n : ℕ) → (n == number) ≡ false → WithinIn (Off name) (session_of n state.sessions)
  pub waits : (n : ℕ) → (n == number) ≡ false → WaitsOff name (waiting_of n state.waiting)

no_one : (a b c : Bool) (holder : ℕ) → b ≡ false → cond (a && (b && c)) (Some holder) None ≡ None
no_one true true c holder off = absurd (true≢false off)
no_one true false c holder off = refl
no_one false b c holder off = refl

not_other : (a c : Bool) (holder : ℕ) → a ≡ true → cond (not a && c) (Some holder) None ≡ None
not_other true c holder own = refl
not_other false c holder own = absurd (true≢false (sym own))

module _ (number : ℕ) (name : List ℕ) (exclusive : Bool) where
  held_off : (holder : ℕ) (held : List HeldName) (following : List grants.HeldName) → AllByRecursion (λ (one : HeldName). Off name one.name) held → least_holder following number name exclusive ≡ None → least_holder (map (name_held holder) held ++ following) number name exclusive ≡ None
  unfolding least_holder
  held_off holder [] following all rest = rest
  held_off holder (one ∷ held) following all rest =
      both_none (holding_session number name exclusive (name_held holder one)) (least_holder (map (name_held holder) held ++ following) number name exclusive)
      (no_one (not (holder == number)) (bytes_eq one.name name) (one.exclusive || not exclusive) holder all.0) (held_off holder held following all.1 rest)

  held_own : (holder : ℕ) (held : List HeldName) (following : List grants.HeldName) → (holder == number) ≡ true → least_holder following number name exclusive ≡ None → least_holder (map (name_held holder) held ++ following) number name exclusive ≡ None
  unfolding least_holder
  held_own holder [] following own rest = rest
  held_own holder (one ∷ held) following own rest =
      both_none (holding_session number name exclusive (name_held holder one)) (least_holder (map (name_held holder) held ++ following) number name exclusive)
      (not_other (holder == number) (bytes_eq one.name name && (one.exclusive || not exclusive)) holder own) (held_own holder held following own rest)

-- what holds of the sessions of a list of which each has its own number holds of those after the first
tail_of : (P : Option Session → Type 0) → P None → (number : ℕ) (first : Session) (sessions : List Session) → session_of first.number sessions ≡ None → ((n : ℕ) → (n == number) ≡ false → P (session_of n (first ∷ sessions))) → (n : ℕ) → (n == number) ≡ false → P (session_of n sessions)
tail_of P nothing number first sessions apart each n differ = by (first.number == n) refl (each n differ) where
  by : (b : Bool) → (first.number == n) ≡ b → P (cond b (Some first) (session_of n sessions)) → P (session_of n sessions)
  by true here is = subst P (sym (ap (λ (m : ℕ). session_of m sessions) (sym (are_one first.number n here)) ∙ apart)) nothing
  by false there is = is

head_of : (P : Option Session → Type 0) (number : ℕ) (first : Session) (sessions : List Session) → ((n : ℕ) → (n == number) ≡ false → P (session_of n (first ∷ sessions))) → (first.number == number) ≡ false → P (Some first)
head_of P number first sessions each differ = subst (λ (b : Bool). P (cond b (Some first) (session_of first.number sessions))) (same_number first.number) (each first.number differ)

sessions_off : (number : ℕ) (name : List ℕ) (exclusive : Bool) (sessions : List Session) → IsApart sessions → ((n : ℕ) → (n == number) ≡ false → WithinIn (Off name) (session_of n sessions)) → least_holder (names_held sessions) number name exclusive ≡ None
unfolding least_holder
sessions_off number name exclusive [] apart each = refl
sessions_off number name exclusive (first ∷ sessions) apart each =
    by (first.number == number) refl (sessions_off number name exclusive sessions apart.1 (tail_of (WithinIn (Off name)) tt number first sessions apart.0 each)) where
      by : (b : Bool) → (first.number == number) ≡ b → least_holder (names_held sessions) number name exclusive ≡ None → least_holder (map (name_held first.number) first.names ++ names_held sessions) number name exclusive ≡ None
      by true own rest = held_own number name exclusive first.number first.names (names_held sessions) own rest
      by false other rest = held_off number name exclusive first.number first.names (names_held sessions) (head_of (WithinIn (Off name)) number first sessions each other).names rest

-- WHO WAITS

abbrev NoneFor : ℕ → List ℕ → Waiter → Type 0
NoneFor number name one = waiting_session number name one ≡ None

waiting_off : (number : ℕ) (name : List ℕ) (waiting : List Waiting) → WaitsApart waiting → ((n : ℕ) → (n == number) ≡ false → WaitsOff name (waiting_of n waiting)) → AllByRecursion (NoneFor number name) (waiters waiting)
waiting_off number name [] apart each = tt
waiting_off number name (one ∷ waiting) apart each = All-append (NoneFor number name) (waits_for one) (waiters waiting) (by (is_exclusive one.request)) (waiting_off number name waiting apart.1 later) where
  later : (n : ℕ) → (n == number) ≡ false → WaitsOff name (waiting_of n waiting)
  later n differ = at (one.session == n) refl (each n differ) where
    at : (b : Bool) → (one.session == n) ≡ b → WaitsOff name (cond b (Some one) (waiting_of n waiting)) → WaitsOff name (waiting_of n waiting)
    at true here is = subst (WaitsOff name) (sym (ap (λ (m : ℕ). waiting_of m waiting) (sym (are_one one.session n here)) ∙ apart.0)) tt
    at false there is = is

  off : (a c : Bool) → c ≡ false → cond (not a && c) (Some one.session) None ≡ None
  off true c none = refl
  off false true none = absurd (true≢false none)
  off false false none = refl

  here : (b : Bool) → (one.session == number) ≡ b → NoneFor number name (record { session = one.session; names = names_in one.request })
  here true own = not_other (one.session == number) (has_name (names_in one.request) name) one.session own
  here false other = off (one.session == number) (has_name (names_in one.request) name) (subst (λ (b : Bool). WaitsOff name (cond b (Some one) (waiting_of one.session waiting))) (same_number one.session) (each one.session other))

  by : (b : Bool) → AllByRecursion (NoneFor number name) (cond b (record { session = one.session; names = names_in one.request } ∷ []) [])
  by true = (here (one.session == number) refl, tt)
  by false = tt

least_off : (number : ℕ) (name : List ℕ) (waiting : List Waiter) → AllByRecursion (NoneFor number name) waiting → least_waiter waiting number name ≡ None
unfolding least_waiter
least_off number name [] all = refl
least_off number name (one ∷ waiting) all = both_none (waiting_session number name one) (least_waiter waiting number name) all.0 (least_off number name waiting all.1)

abbrev FrontOff : ℕ → List ℕ → Option QueuePlace → Type 0
FrontOff number name None = Unit {0}
FrontOff number name (Some place) = AllByRecursion (NoneFor number name) place.front

front_off : (number : ℕ) (name : List ℕ) (waiting : List Waiter) → AllByRecursion (NoneFor number name) waiting → FrontOff number name (place_of number waiting)
unfolding place_of
front_off number name [] all = tt
front_off number name (other ∷ waiting) all = by (other.session == number) (front_off number name waiting all.1) where
  after : (place : Option QueuePlace) → FrontOff number name place → FrontOff number name (option_map (λ (place : QueuePlace). record { front = other ∷ place.front; request = place.request; following = place.following }) place)
  after None is = tt
  after (Some place) is = (all.0, is)

  by : (b : Bool) → FrontOff number name (place_of number waiting)
      → FrontOff number name (cond b (Some (record { front = []; request = other; following = waiting })) (option_map (λ (place : QueuePlace). record { front = other ∷ place.front; request = place.request; following = place.following }) (place_of number waiting)))
  by true rest = tt
  by false rest = after (place_of number waiting) rest

ahead_off : (number : ℕ) (name : List ℕ) (waiting : List Waiter) → AllByRecursion (NoneFor number name) waiting → least_waiter (ahead_of number waiting) number name ≡ None
ahead_off number name waiting all = by (place_of number waiting) (front_off number name waiting all) where
  by : (place : Option QueuePlace) → FrontOff number name place → least_waiter (before place waiting) number name ≡ None
  by None is = least_off number name waiting all
  by (Some place) is = least_off number name place.front is

-- ROW LOCKS

lock_off : (number : ℕ) (lock : Lock) (holder : ℕ) (locks : List Lock) (following : List HeldLock) → AllByRecursion (λ (one : Lock). Off lock.table one.table) locks → blocker_of_lock following number lock ≡ None → blocker_of_lock (map (held_by holder) locks ++ following) number lock ≡ None
unfolding blocker_of_lock refusal conflict
lock_off number lock holder [] following all rest = rest
lock_off number lock holder (one ∷ locks) following all rest =
    both_none (refusal number lock (held_by holder one)) (blocker_of_lock (map (held_by holder) locks ++ following) number lock) (rw all.0 (off (not (holder == number)))) (lock_off number lock holder locks following all.1 rest) where
      off : (a : Bool) → cond (a && false) (Some holder) None ≡ None
      off true = refl
      off false = refl

lock_own : (number : ℕ) (lock : Lock) (holder : ℕ) (locks : List Lock) (following : List HeldLock) → (holder == number) ≡ true → blocker_of_lock following number lock ≡ None → blocker_of_lock (map (held_by holder) locks ++ following) number lock ≡ None
unfolding blocker_of_lock refusal
lock_own number lock holder [] following own rest = rest
lock_own number lock holder (one ∷ locks) following own rest =
    both_none (refusal number lock (held_by holder one)) (blocker_of_lock (map (held_by holder) locks ++ following) number lock) (not_other (holder == number) (conflict one lock) holder own) (lock_own number lock holder locks following own rest)

rows_off : (number : ℕ) (lock : Lock) (sessions : List Session) → IsApart sessions → ((n : ℕ) → (n == number) ≡ false → WithinIn (Off lock.table) (session_of n sessions)) → blocker_of_lock (locks_held sessions) number lock ≡ None
unfolding blocker_of_lock
rows_off number lock [] apart each = refl
rows_off number lock (first ∷ sessions) apart each =
    by (first.number == number) refl (rows_off number lock sessions apart.1 (tail_of (WithinIn (Off lock.table)) tt number first sessions apart.0 each)) where
      by : (b : Bool) → (first.number == number) ≡ b → blocker_of_lock (locks_held sessions) number lock ≡ None → blocker_of_lock (map (held_by first.number) first.row_locks ++ locks_held sessions) number lock ≡ None
      by true own rest = lock_own number lock first.number first.row_locks (locks_held sessions) own rest
      by false other rest = lock_off number lock first.number first.row_locks (locks_held sessions) (head_of (WithinIn (Off lock.table)) number first sessions each other).locks rest

-- WHAT IS GRANTED

module _ (state : State) (number : ℕ) (apart : IsApart state.sessions) (waits_apart : WaitsApart state.waiting) where
  name_free : (name : List ℕ) (exclusive : Bool) → IsFreeName state number name → blocker_of_name (names_held state.sessions) (waiters state.waiting) number name exclusive ≡ None
  unfolding blocker_of_name
  name_free name false free =
      both_none (least_holder (names_held state.sessions) number name true) _ (sessions_off number name true state.sessions apart free.held) (by (holds (names_held state.sessions) number name false)) where
        by : (b : Bool) → cond b None (least_waiter (waiters state.waiting) number name) ≡ None
        by true = refl
        by false = least_off number name (waiters state.waiting) (waiting_off number name state.waiting waits_apart free.waits)
  name_free name true free = by (holds (names_held state.sessions) number name true) where
    by : (b : Bool) → cond b None (least (least_holder (names_held state.sessions) number name false) (least_waiter (ahead_of number (waiters state.waiting)) number name)) ≡ None
    by true = refl
    by false =
        both_none (least_holder (names_held state.sessions) number name false) (least_waiter (ahead_of number (waiters state.waiting)) number name)
        (sessions_off number name false state.sessions apart free.held) (ahead_off number name (waiters state.waiting) (waiting_off number name state.waiting waits_apart free.waits))

  names_free : (exclusive : Bool) (names : List (List ℕ)) → AllByRecursion (IsFreeName state number) names → blocker_of_names (names_held state.sessions) (waiters state.waiting) number exclusive names ≡ None
  unfolding blocker_of_names
  names_free exclusive [] all = refl
  names_free exclusive (name ∷ names) all =
      both_none (blocker_of_name (names_held state.sessions) (waiters state.waiting) number name exclusive) (blocker_of_names (names_held state.sessions) (waiters state.waiting) number exclusive names) (name_free name exclusive all.0) (names_free exclusive names all.1)

  locks_free : (locks : List Lock) → AllByRecursion (λ (one : Lock). IsFreeName state number one.table) locks → blocker_of_set (locks_held state.sessions) number locks ≡ None
  unfolding blocker_of_set
  locks_free [] all = refl
  locks_free (lock ∷ locks) all = both_none (blocker_of_lock (locks_held state.sessions) number lock) (blocker_of_set (locks_held state.sessions) number locks) (rows_off number lock state.sessions apart all.0.held) (locks_free locks all.1)

  -- *Nobody blocks it*, where all its names are free
  pub unblocked : (request : Request) → AllByRecursion (IsFreeName state number) (names_in request) → blocker state number (need state number request) ≡ None
  unblocked request all =
      let full : Request = filled state number request in
      let free = subst (AllByRecursion (IsFreeName state number)) (sym (filled_names state number request)) all in
      both_none (blocker_of_names (names_held state.sessions) (waiters state.waiting) number (is_exclusive full) (names_in full)) (blocker_of_set (locks_held state.sessions) number (row_locks_of (view number state) full))
      (names_free (is_exclusive full) (names_in full) free) (locks_free (row_locks_of (view number state) full) (locks_on (IsFreeName state number) (view number state) full free))
