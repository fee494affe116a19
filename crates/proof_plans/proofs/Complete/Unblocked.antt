-- A request is done at once where nothing waits, and no other session holds a row or one of its names.
use Rattle.std.proofs.Common.{◌≡◌, ◌⊎◌, ℕ, ◌==◌, Bool, true, false, cond, not, ◌&&◌, ◌||◌, List, [], ◌∷◌, map, Option, Some, None, refl, sym, ap, ◌∙◌, subst, inl, inr}
use Rattle.std.specs.List.{AllByRecursion}
use Rattle.std.specs.Str.{bytes_eq}
use Rattle.std.proofs.lemmas.Bool.{true≢false}
use Rattle.base_values.proofs.SchemaRules.Lists.{All-append, All-weaker}
use Rattle.server_locks.specs.RowLocks.Grants.{blocker_of_lock, blocker_of_set, refusal}
use Rattle.server_locks.specs.RowLocks.LockTable.{held_by}
use Rattle.server_locks.specs.declared.row_locks.lock.HeldLock.{HeldLock}
use Rattle.server_locks.specs.declared.row_locks.lock.Lock.{Lock}
use Rattle.server_locks.specs.MetadataLocks.Grants as grants
use Rattle.server_locks.specs.MetadataLocks.Grants.{holds, holding_session, is_on, least_holder, least_waiter, place_of, blocker_of_name, blocker_of_names}
use Rattle.server_model.specs.declared.need.Need.{Need}
use Rattle.server_model.specs.declared.session.HeldName.{HeldName}
use Rattle.server_model.specs.declared.session.Session.{Session}
use Rattle.server_model.specs.Blockers.{blocker}
use Rattle.server_model.specs.States.{State, session_of, name_held, names_held, locks_held, kept_names, shared_names, locked_names, waiters}
use Rattle.proof_journals.specs.Holdings.{names_of}
use Rattle.proof_journals.specs.Run.Counts.{AreApart}
use Rattle.proof_journals.proofs.Sentry.Holding.{both_none}
use Rattle.server_model.proofs.LockedRows.Tests.{are_one, same_number}

-- the lock is the session's own, or on another name
abbrev pub Off : ℕ → List ℕ → grants.HeldName → Type 0
Off number name held = ((held.session == number) ≡ true) ⊎ (bytes_eq held.name name ≡ false)

none_if : (a b : Bool) (number : ℕ) → a ≡ false ⊎ b ≡ false → cond (a && b) (Some number) None ≡ None
none_if true true number (inl off) = absurd (true≢false off)
none_if true true number (inr off) = absurd (true≢false off)
none_if true false number off = refl
none_if false b number off = refl

no_holder : (held : List grants.HeldName) (number : ℕ) (name : List ℕ) (exclusive : Bool) → AllByRecursion (Off number name) held → least_holder held number name exclusive ≡ None
unfolding least_holder
no_holder [] number name exclusive off = refl
no_holder (first ∷ held) number name exclusive off = both_none (holding_session number name exclusive first) (least_holder held number name exclusive) (one off.0) (no_holder held number name exclusive off.1) where
  one : Off number name first → holding_session number name exclusive first ≡ None
  one (inl own) = none_if (not (first.session == number)) (is_on first name exclusive) first.session (inl (ap not own))
  one (inr other) = none_if (not (first.session == number)) (is_on first name exclusive) first.session (inr (ap (λ (b : Bool). b && (first.exclusive || not exclusive)) other))

name_free : (held : List grants.HeldName) (number : ℕ) (name : List ℕ) (exclusive : Bool) → AllByRecursion (Off number name) held → blocker_of_name held [] number name exclusive ≡ None
unfolding blocker_of_name least_waiter place_of
name_free held number name false off = both_none (least_holder held number name true) _ (no_holder held number name true off) (by (holds held number name false)) where
  by : (b : Bool) → cond b None (least_waiter [] number name) ≡ None
  by true = refl
  by false = refl
name_free held number name true off = by (holds held number name true) (both_none (least_holder held number name false) (least_waiter [] number name) (no_holder held number name false off) refl) where
  by : (b : Bool) {one : Option ℕ} → one ≡ None → cond b None one ≡ None
  by true none = refl
  by false none = none

names_free : (held : List grants.HeldName) (number : ℕ) (exclusive : Bool) (names : List (List ℕ)) → AllByRecursion (λ (name : List ℕ). AllByRecursion (Off number name) held) names → blocker_of_names held [] number exclusive names ≡ None
unfolding blocker_of_names
names_free held number exclusive [] off = refl
names_free held number exclusive (name ∷ names) off =
    both_none (blocker_of_name held [] number name exclusive) (blocker_of_names held [] number exclusive names) (name_free held number name exclusive off.0) (names_free held number exclusive names off.1)

lock_free : (held : List HeldLock) (number : ℕ) (lock : Lock) → AllByRecursion (λ (one : HeldLock). (one.session == number) ≡ true) held → blocker_of_lock held number lock ≡ None
unfolding blocker_of_lock refusal
lock_free [] number lock own = refl
lock_free (first ∷ held) number lock own = both_none (refusal number lock first) (blocker_of_lock held number lock) (none_if (not (first.session == number)) _ first.session (inl (ap not own.0))) (lock_free held number lock own.1)

locks_free : (held : List HeldLock) (number : ℕ) (set : List Lock) → AllByRecursion (λ (one : HeldLock). (one.session == number) ≡ true) held → blocker_of_set held number set ≡ None
unfolding blocker_of_set
locks_free held number [] own = refl
locks_free held number (lock ∷ set) own = both_none (blocker_of_lock held number lock) (blocker_of_set held number set) (lock_free held number lock own) (locks_free held number set own)

-- OF SESSIONS

-- the session is the own one, or holds no row lock and none of these names
pub record Clears (number : ℕ) (names : List (List ℕ)) (session : Session) : Type 0 where
  pub locks : ((session.number == number) ≡ true) ⊎ (session.row_locks ≡ [])
  pub each : AllByRecursion (λ (name : List ℕ). ((session.number == number) ≡ true) ⊎ AllByRecursion (λ (one : HeldName). bytes_eq one.name name ≡ false) session.names) names

own_names : (number other : ℕ) (name : List ℕ) (held : List HeldName) → ((other == number) ≡ true) ⊎ AllByRecursion (λ (one : HeldName). bytes_eq one.name name ≡ false) held → AllByRecursion (Off number name) (map (name_held other) held)
own_names number other name [] off = tt
own_names number other name (first ∷ held) (inl own) = (inl own, own_names number other name held (inl own))
own_names number other name (first ∷ held) (inr off) = (inr off.0, own_names number other name held (inr off.1))

names_clear : (number : ℕ) (name : List ℕ) (sessions : List Session) → AllByRecursion (λ (s : Session). ((s.number == number) ≡ true) ⊎ AllByRecursion (λ (one : HeldName). bytes_eq one.name name ≡ false) s.names) sessions → AllByRecursion (Off number name) (names_held sessions)
names_clear number name [] all = tt
names_clear number name (first ∷ sessions) all = All-append (Off number name) (map (name_held first.number) first.names) (names_held sessions) (own_names number first.number name first.names all.0) (names_clear number name sessions all.1)

own_locks : (number other : ℕ) (locks : List Lock) → ((other == number) ≡ true) ⊎ (locks ≡ []) → AllByRecursion (λ (one : HeldLock). (one.session == number) ≡ true) (map (held_by other) locks)
own_locks number other [] own = tt
own_locks number other (lock ∷ locks) (inl own) = (own, own_locks number other locks (inl own))
own_locks number other (lock ∷ locks) (inr none) = absurd (let no : lock ∷ locks ≡ [] = none in cc)

locks_clear : (number : ℕ) (sessions : List Session) → AllByRecursion (λ (s : Session). ((s.number == number) ≡ true) ⊎ (s.row_locks ≡ [])) sessions → AllByRecursion (λ (one : HeldLock). (one.session == number) ≡ true) (locks_held sessions)
locks_clear number [] all = tt
locks_clear number (first ∷ sessions) all = All-append (λ (one : HeldLock). (one.session == number) ≡ true) (map (held_by first.number) first.row_locks) (locks_held sessions) (own_locks number first.number first.row_locks all.0) (locks_clear number sessions all.1)

each_name : (number : ℕ) (names : List (List ℕ)) (sessions : List Session)
    → AllByRecursion (λ (s : Session). AllByRecursion (λ (name : List ℕ). ((s.number == number) ≡ true) ⊎ AllByRecursion (λ (one : HeldName). bytes_eq one.name name ≡ false) s.names) names) sessions → AllByRecursion (λ (name : List ℕ). AllByRecursion (Off number name) (names_held sessions)) names
each_name number [] sessions all = tt
each_name number (name ∷ names) sessions all = (
  names_clear number name sessions (All-weaker _ (λ (s : Session). ((s.number == number) ≡ true) ⊎ AllByRecursion (λ (one : HeldName). bytes_eq one.name name ≡ false) s.names) (λ s off. off.0) sessions all),
  each_name number names sessions (All-weaker _ (λ (s : Session). AllByRecursion (λ (one : List ℕ). ((s.number == number) ≡ true) ⊎ AllByRecursion (λ (held : HeldName). bytes_eq held.name one ≡ false) s.names) names) (λ s off. off.1) sessions all),
)

-- *Nobody blocks it*
pub unblocked : (state : State) (number : ℕ) (need : Need) → state.waiting ≡ [] → AllByRecursion (Clears number need.names) state.sessions → blocker state number need ≡ None
unblocked state number need idle clear =
    subst (λ w. Rattle.server_locks.specs.LeastSession.Least.least (blocker_of_names (names_held state.sessions) (waiters w) number need.exclusive need.names) (blocker_of_set (locks_held state.sessions) number need.locks) ≡ None) (sym idle)
    (both_none (blocker_of_names (names_held state.sessions) [] number need.exclusive need.names) (blocker_of_set (locks_held state.sessions) number need.locks)
    (names_free (names_held state.sessions) number need.exclusive need.names (each_name number need.names state.sessions (All-weaker (Clears number need.names) _ (λ s one. one.each) state.sessions clear)))
    (locks_free (locks_held state.sessions) number need.locks (locks_clear number state.sessions (All-weaker (Clears number need.names) _ (λ s one. one.locks) state.sessions clear))))

-- EACH SESSION BY ITS NUMBER

pub each_session : (P : Session → Type 0) (sessions : List Session) → AreApart sessions → ((m : ℕ) (s : Session) → session_of m sessions ≡ Some s → s.number ≡ m → P s) → AllByRecursion P sessions
unfolding AreApart
each_session P [] apart each = tt
each_session P (first ∷ sessions) apart each = (each first.number first here refl, each_session P sessions apart.1 (λ m s found number. each m s (there m s found) number)) where
  here : session_of first.number (first ∷ sessions) ≡ Some first
  here = ap (λ (b : Bool). cond b (Some first) (session_of first.number sessions)) (same_number first.number)

  there : (m : ℕ) (s : Session) → session_of m sessions ≡ Some s → session_of m (first ∷ sessions) ≡ Some s
  there m s found = by (first.number == m) refl where
    no : None ≡ Some s → ⊥
    no same = cc

    by : (b : Bool) → (first.number == m) ≡ b → cond b (Some first) (session_of m sessions) ≡ Some s
    by false differ = found
    by true same = absurd (no (sym apart.0 ∙ ap (λ (n : ℕ). session_of n sessions) (are_one first.number m same) ∙ found))

-- what isn't shared and what isn't exclusive is all
pub names_off : (name : List ℕ) (held : List HeldName) → names_of (shared_names held) ≡ [] → AllByRecursion (λ (locked : List ℕ). bytes_eq locked name ≡ false) (locked_names held) → AllByRecursion (λ (one : HeldName). bytes_eq one.name name ≡ false) held
names_off name [] shared off = tt
names_off name (first ∷ held) shared off = by first.exclusive refl shared off (names_off name held) where
  by : (b : Bool) → first.exclusive ≡ b → names_of (cond (not b) (first ∷ shared_names held) (shared_names held)) ≡ [] → AllByRecursion (λ (locked : List ℕ). bytes_eq locked name ≡ false) (map (λ (one : HeldName). one.name) (cond b (first ∷ kept_names held) (kept_names held)))
      → (names_of (shared_names held) ≡ [] → AllByRecursion (λ (locked : List ℕ). bytes_eq locked name ≡ false) (locked_names held) → AllByRecursion (λ (one : HeldName). bytes_eq one.name name ≡ false) held) → AllByRecursion (λ (one : HeldName). bytes_eq one.name name ≡ false) (first ∷ held)
  by true is shared off rest = (off.0, rest shared off.1)
  by false is shared off rest = absurd (let no : first.name ∷ names_of (shared_names held) ≡ [] = shared in cc)
