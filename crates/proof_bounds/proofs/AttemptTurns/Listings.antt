-- The listing of waits shows a RENAME whose table another session has locked, and who blocks it.
use Rattle.std.proofs.Common.{◌≡◌, ◌≢◌, ◌≤◌, ℕ, ◌==◌, Bool, true, false, cond, not, ◌&&◌, ◌||◌, List, [], ◌∷◌, ◌++◌, map, fold, take, drop, Option, Some, None, refl, sym, ap, ◌∙◌, arith}
use Rattle.std.specs.Prelude.{is_some, unwrap_or, nat_lt}
use Rattle.std.specs.List.{AllByRecursion, list_any, prefix_len}
use Rattle.std.specs.Option.{option_map}
use Rattle.std.proofs.Math.Nat.{le-min}
use Rattle.std.proofs.lemmas.Bool.{true≢false, false≢true, or_left, or_right}
use Rattle.std.proofs.lemmas.Bool.Decides.{nat_tests}
use Rattle.std.proofs.lemmas.List.{take-append-drop}
use Rattle.std.proofs.lemmas.List.Folds.{list_any-append}
use Rattle.server_locks.specs.LeastSession.Least.{least}
use Rattle.server_locks.specs.MetadataLocks.Grants as grants
use Rattle.server_locks.specs.MetadataLocks.Grants.{QueuePlace, holds, is_on, has_name, holding_session, waiting_session, least_holder, least_waiter, place_of, ahead_of, blocker_of_name, blocker_of_names}
use Rattle.server_locks.specs.declared.metadata_locks.request.Waiter.{Waiter}
use Rattle.server_model.specs.declared.listing.ShownWaiter.{ShownWaiter}
use Rattle.server_model.specs.declared.session.HeldName.{HeldName}
use Rattle.server_model.specs.declared.session.Session.{Session}
use Rattle.server_model.specs.declared.session.Waiting.{Waiting}
use Rattle.server_model.specs.Listings.{placed_waiter, waiter_shown, waits_shown}
use Rattle.server_model.specs.States.{State, session_of, waiting_of, waiters, waits_for, is_exclusive, name_held, names_held, names_in}
use Rattle.tool_program.specs.CutoverCore.Attempts.{exchange}
use Rattle.tool_program.specs.CutoverCore.CutOvers.{shows_wait}
use Rattle.proof_journals.proofs.Sentry.Holding.{granted_each, granted_alone, weaker}
use Rattle.server_model.proofs.LockedRows.Tests.{are_one}

-- WHO BLOCKS IS A SESSION FROM 1 ON

abbrev IsNumber : Option ℕ → Type 0
IsNumber None = Unit {0}
IsNumber (Some n) = 1 ≤ n

least_number : (a b : Option ℕ) → IsNumber a → IsNumber b → IsNumber (least a b)
least_number None b one two = two
least_number (Some a) None one two = one
least_number (Some a) (Some b) one two = le-min one two

if_number : (b : Bool) (n : ℕ) → 1 ≤ n → IsNumber (cond b (Some n) None)
if_number true n some = some
if_number false n some = tt

abbrev pub AllHeld : List grants.HeldName → Type 0
AllHeld held = AllByRecursion (λ (h : grants.HeldName). 1 ≤ h.session) held

abbrev pub AllWait : List Waiter → Type 0
AllWait waiting = AllByRecursion (λ (w : Waiter). 1 ≤ w.session) waiting

holder_number : (held : List grants.HeldName) (s : ℕ) (name : List ℕ) (x : Bool) → AllHeld held → IsNumber (least_holder held s name x)
unfolding least_holder
holder_number [] s name x all = tt
holder_number (other ∷ held) s name x all = least_number (holding_session s name x other) (least_holder held s name x) (if_number (not (other.session == s) && is_on other name x) other.session all.0) (holder_number held s name x all.1)

waiter_number : (waiting : List Waiter) (s : ℕ) (name : List ℕ) → AllWait waiting → IsNumber (least_waiter waiting s name)
unfolding least_waiter
waiter_number [] s name all = tt
waiter_number (other ∷ waiting) s name all = least_number (waiting_session s name other) (least_waiter waiting s name) (if_number (not (other.session == s) && has_name other.names name) other.session all.0) (waiter_number waiting s name all.1)

abbrev FrontWaits : Option QueuePlace → Type 0
FrontWaits None = Unit {0}
FrontWaits (Some place) = AllWait place.front

place_waits : (s : ℕ) (waiting : List Waiter) → AllWait waiting → FrontWaits (place_of s waiting)
unfolding place_of
place_waits s [] all = tt
place_waits s (other ∷ waiting) all = by (other.session == s) (place_of s waiting) (place_waits s waiting all.1) where
  by : (b : Bool) (place : Option QueuePlace) → FrontWaits place → FrontWaits (cond b (Some (record { front = []; request = other; following = waiting })) (option_map (λ (place : QueuePlace). record { front = other ∷ place.front; request = place.request; following = place.following }) place))
  by true place front = tt
  by false None front = tt
  by false (Some place) front = (all.0, front)

ahead_waits : (s : ℕ) (waiting : List Waiter) → AllWait waiting → AllWait (ahead_of s waiting)
ahead_waits s waiting all = by (place_of s waiting) (place_waits s waiting all) where
  by : (place : Option QueuePlace) → FrontWaits place → AllWait (grants.before place waiting)
  by None front = all
  by (Some place) front = front

name_number : (held : List grants.HeldName) (waiting : List Waiter) (s : ℕ) (name : List ℕ) → AllHeld held → AllWait waiting → IsNumber (blocker_of_name held waiting s name true)
unfolding blocker_of_name
name_number held waiting s name all_held all_wait = by (holds held s name true) where
  by : (b : Bool) → IsNumber (cond b None (least (least_holder held s name false) (least_waiter (ahead_of s waiting) s name)))
  by true = tt
  by false = least_number (least_holder held s name false) (least_waiter (ahead_of s waiting) s name) (holder_number held s name false all_held) (waiter_number (ahead_of s waiting) s name (ahead_waits s waiting all_wait))

names_number : (held : List grants.HeldName) (waiting : List Waiter) (s : ℕ) (names : List (List ℕ)) → AllHeld held → AllWait waiting → IsNumber (blocker_of_names held waiting s true names)
unfolding blocker_of_names
names_number held waiting s [] all_held all_wait = tt
names_number held waiting s (name ∷ names) all_held all_wait = least_number (blocker_of_name held waiting s name true) (blocker_of_names held waiting s true names) (name_number held waiting s name all_held all_wait) (names_number held waiting s names all_held all_wait)

-- of sessions from 1 on

pub sessions_number : (sessions : List Session) → ((n : ℕ) → is_some (session_of n sessions) ≡ true → 1 ≤ n) → AllHeld (names_held sessions)
sessions_number [] each = tt
sessions_number (first ∷ sessions) each = both (map (name_held first.number) first.names) (names_held sessions) (held first.names) (sessions_number sessions (λ n some. each n (found n (first.number == n) some))) where
  itself : (n : ℕ) → (n == n) ≡ true
  itself n = grind (arith, nat_tests)

  found : (n : ℕ) (b : Bool) → is_some (session_of n sessions) ≡ true → is_some (cond b (Some first) (session_of n sessions)) ≡ true
  found n true some = refl
  found n false some = some

  some : 1 ≤ first.number
  some = each first.number (ap (λ (b : Bool). is_some (cond b (Some first) (session_of first.number sessions))) (itself first.number))

  held : (names : List HeldName) → AllHeld (map (name_held first.number) names)
  held [] = tt
  held (name ∷ names) = (some, held names)

  both : (a b : List grants.HeldName) → AllHeld a → AllHeld b → AllHeld (a ++ b)
  both [] b one two = two
  both (h ∷ a) b one two = (one.0, both a b one.1 two)

pub waiting_number : (waiting : List Waiting) → ((n : ℕ) → is_some (waiting_of n waiting) ≡ true → 1 ≤ n) → AllWait (waiters waiting)
waiting_number [] each = tt
waiting_number (first ∷ waiting) each = by (is_exclusive first.request) (waiting_number waiting (λ n some. each n (found n (first.session == n) some))) where
  itself : (n : ℕ) → (n == n) ≡ true
  itself n = grind (arith, nat_tests)

  found : (n : ℕ) (b : Bool) → is_some (waiting_of n waiting) ≡ true → is_some (cond b (Some first) (waiting_of n waiting)) ≡ true
  found n true some = refl
  found n false some = some

  some : 1 ≤ first.session
  some = each first.session (ap (λ (b : Bool). is_some (cond b (Some first) (waiting_of first.session waiting))) (itself first.session))

  by : (b : Bool) → AllWait (waiters waiting) → AllWait (cond b (record { session = first.session; names = names_in first.request } ∷ []) [] ++ waiters waiting)
  by true rest = (some, rest)
  by false rest = rest

-- WHO IS SHOWN

inserted : (test : ShownWaiter → Bool) (shown : List ShownWaiter) (place : ℕ) (new : ShownWaiter) → (list_any test shown || test new) ≡ true → list_any test (take place shown ++ new ∷ drop place shown) ≡ true
inserted test shown place new some = list_any-append test (take place shown) (new ∷ drop place shown) ∙ by (list_any test (take place shown)) (test new) (list_any test (drop place shown)) (ap (λ (b : Bool). b || test new) (sym parts) ∙ some) where
  parts : list_any test shown ≡ (list_any test (take place shown) || list_any test (drop place shown))
  parts = ap (list_any test) (sym (take-append-drop place shown)) ∙ list_any-append test (take place shown) (drop place shown)

  by : (a b c : Bool) → ((a || c) || b) ≡ true → (a || (b || c)) ≡ true
  by true b c some = refl
  by false true c some = refl
  by false false true some = refl
  by false false false some = absurd (false≢true some)

placed : (test : ShownWaiter → Bool) (rest shown : List ShownWaiter) → (list_any test shown || list_any test rest) ≡ true → list_any test (fold placed_waiter shown rest) ≡ true
placed test [] shown some = by (list_any test shown) some where
  by : (a : Bool) → (a || false) ≡ true → a ≡ true
  by true some = refl
  by false some = absurd (false≢true some)
placed test (first ∷ rest) shown some =
    placed test rest (placed_waiter shown first)
    (by (list_any test shown) (test first) (list_any test rest) (list_any test (placed_waiter shown first)) (inserted test shown (prefix_len (λ (other : ShownWaiter). nat_lt other.session first.session) shown) first) some) where
      by : (a b c d : Bool) → ((a || b) ≡ true → d ≡ true) → (a || (b || c)) ≡ true → (d || c) ≡ true
      by a b true d one some = or_true d where
        or_true : (d : Bool) → (d || true) ≡ true
        or_true true = refl
        or_true false = refl
      by true b false d one some = or_left d false (one refl)
      by false true false d one some = or_left d false (one refl)
      by false false false d one some = absurd (false≢true some)

-- a request that waits for names exclusively is shown
shown_among : (test : ShownWaiter → Bool) (state : State) (waiting : List Waiting) (r : ℕ) (one : Waiting) → waiting_of r waiting ≡ Some one → is_exclusive one.request ≡ true → test (waiter_shown state (record { session = r; names = names_in one.request })) ≡ true → list_any test (map (waiter_shown state) (waiters waiting)) ≡ true
shown_among test state [] r one none exclusive blocked = absurd cc
shown_among test state (first ∷ waiting) r one some exclusive blocked = by (first.session == r) refl some (λ later. shown_among test state waiting r one later exclusive blocked) where
  here : first ≡ one → (first.session == r) ≡ true → list_any test (map (waiter_shown state) (waits_for first ++ waiters waiting)) ≡ true
  here same own = rw (ap (λ (w : Waiting). is_exclusive w.request) same ∙ exclusive) (or_left (test (waiter_shown state (record { session = first.session; names = names_in first.request }))) (list_any test (map (waiter_shown state) (waiters waiting)))
      (ap (λ (n : ℕ). test (waiter_shown state (record { session = n; names = names_in first.request }))) (are_one first.session r own) ∙ ap (λ (w : Waiting). test (waiter_shown state (record { session = r; names = names_in w.request }))) same ∙ blocked))

  there : (b : Bool) → list_any test (map (waiter_shown state) (waiters waiting)) ≡ true → list_any test (map (waiter_shown state) (cond b (record { session = first.session; names = names_in first.request } ∷ []) [] ++ waiters waiting)) ≡ true
  there true later = or_right (test (waiter_shown state (record { session = first.session; names = names_in first.request }))) (list_any test (map (waiter_shown state) (waiters waiting))) later
  there false later = later

  by : (b : Bool) → (first.session == r) ≡ b → cond b (Some first) (waiting_of r waiting) ≡ Some one → (waiting_of r waiting ≡ Some one → list_any test (map (waiter_shown state) (waiters waiting)) ≡ true) → list_any test (map (waiter_shown state) (waits_for first ++ waiters waiting)) ≡ true
  by true own some rest = here (let same : first ≡ one = cc in same) own
  by false other some rest = there (is_exclusive first.request) (rest some)

-- WHO IS BLOCKED

-- by a session that has locked its first name
pub locker_blocks : (state : State) (r l : ℕ) (t : List ℕ) (names : List (List ℕ)) → l ≢ r → holds (names_held state.sessions) l t true ≡ true → holds (names_held state.sessions) r t true ≡ false → blocker_of_names (names_held state.sessions) (waiters state.waiting) r true (t ∷ names) ≡ None → ⊥
locker_blocks state r l t names apart locks lacks free =
    true≢false (sym (weaker (names_held state.sessions) l t locks) ∙ granted_alone (names_held state.sessions) (waiters state.waiting) r l t apart lacks (granted_each (names_held state.sessions) (waiters state.waiting) r true names t free))

-- *The RENAME is shown*
pub rename_shown : (state : State) (r l : ℕ) (t : List ℕ) (one : Waiting) → l ≢ r → holds (names_held state.sessions) l t true ≡ true → holds (names_held state.sessions) r t true ≡ false → AllHeld (names_held state.sessions) → AllWait (waiters state.waiting) → waiting_of r state.waiting ≡ Some one → one.request ≡ exchange t → shows_wait (waits_shown state) ≡ true
unfolding waits_shown
rename_shown state r l t one apart locks lacks all_held all_wait some exchanges =
    placed (λ (w : ShownWaiter). not (w.by == 0)) (map (waiter_shown state) (waiters state.waiting)) []
    (shown_among (λ (w : ShownWaiter). not (w.by == 0)) state state.waiting r one some (ap is_exclusive exchanges) (by (blocker_of_names (names_held state.sessions) (waiters state.waiting) r true (names_in one.request)) (names_number (names_held state.sessions) (waiters state.waiting) r (names_in one.request) all_held all_wait) blocked)) where
      blocked : blocker_of_names (names_held state.sessions) (waiters state.waiting) r true (names_in one.request) ≡ None → ⊥
      blocked free = locker_blocks state r l t _ apart locks lacks (ap (λ request. blocker_of_names (names_held state.sessions) (waiters state.waiting) r true (names_in request)) (sym exchanges) ∙ free)

      by : (found : Option ℕ) → IsNumber found → (found ≡ None → ⊥) → not (unwrap_or found 0 == 0) ≡ true
      by None number blocked_so = absurd (blocked_so refl)
      by (Some n) number blocked_so = grind (arith, nat_tests, number)
