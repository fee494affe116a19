-- Calls keep the locks of different sessions apart.
use Rattle.std.proofs.Common.{◌≡◌, ◌≢◌, ℕ, Bool, true, false, not, nat_eq, ◌&&◌, ◌||◌, cond, List, [], ◌∷◌, ◌++◌, map, filter, fold, Option, Some, None, refl, ap, ◌∙◌, ◌⊎◌, inl, inr, arith}
use Rattle.std.specs.Cmp.{nat_eq_equiv}
use Rattle.std.specs.Cmp.Lexicographic.{pointwise}
use Rattle.std.specs.List.{AllByRecursion, AllPairs, list_any}
use Rattle.std.proofs.lemmas.Bool.{ne_eqb}
use Rattle.std.proofs.lemmas.Cmp.{nat_list_eq_equiv}
use Rattle.std.proofs.lemmas.List.Elements.{All-from_recursion}
use Rattle.std.proofs.lemmas.List.Kept.{AllPairs-cons}
use Rattle.base_values.specs.Spans.{meets}
use Rattle.base_values.proofs.SpanLaws.{meets_both_ways}
use Rattle.server_locks.specs.declared.row_locks.lock.Lock.{Lock}
use Rattle.server_locks.specs.declared.row_locks.lock.HeldLock.{HeldLock}
use Rattle.server_locks.specs.declared.row_locks.lock.LockAnswer.TheVariants as answers
use Rattle.server_locks.specs.RowLocks.Grants.{same_place, conflict, refusal, blocker_of_lock, blocker_of_set, answer_by}
use Rattle.server_locks.proofs.LeastSession.Kept.{both, kept}
use Rattle.server_locks.proofs.LeastSession.Sessions.{none_of, not_refused}
use Rattle.server_locks.specs.RowLocks.LockTable.{LockTable, LastAsk, held_by, granted_unless, freed_if, before_ask}
use Rattle.server_locks.specs.RowLocks.Laws.{Call, called, no_locks, Bear, HeldLocksBear, ConflictBothWays, GrantsWhole}
use Rattle.server_locks.specs.RowLocks.Laws.Call.{Ask, Free, Undo}

-- each lock is compatible with all later ones
abbrev Apart : List HeldLock → Type 0
Apart [] = Unit {0}
Apart (a ∷ held) = AllByRecursion (Bear a) held × Apart held

pairs : (held : List HeldLock) → Apart held → AllPairs Bear held
pairs [] apart = λ i j d before within. absurd (omega arith)
pairs (a ∷ held) apart = AllPairs-cons Bear a held (All-from_recursion (Bear a) held apart.0) (pairs held apart.1)

-- each lock of the first list is compatible with all of the second
abbrev Across : List HeldLock → List HeldLock → Type 0
Across [] more = Unit {0}
Across (a ∷ held) more = AllByRecursion (Bear a) more × Across held more

joined : (held more : List HeldLock) → Apart held → Apart more → Across held more → Apart (held ++ more)
joined [] more p q across = q
joined (a ∷ held) more p q across = (both (Bear a) held more p.0 across.0, joined held more p.1 q across.1)

own : (session : ℕ) (lock : Lock) (set : List Lock) → AllByRecursion (Bear (held_by session lock)) (map (held_by session) set)
own session lock [] = tt
own session lock (next ∷ set) = ((λ other. absurd (other refl)), own session lock set)

alone : (session : ℕ) (set : List Lock) → Apart (map (held_by session) set)
alone session [] = tt
alone session (lock ∷ set) = (own session lock set, alone session set)

bears : (session : ℕ) (lock : Lock) (a : HeldLock) → refusal session lock a ≡ None → Bear a (held_by session lock)
unfolding refusal
bears session lock a e = λ other. not_refused (nat_eq a.session session) (conflict a.lock lock) a.session e (ne_eqb a.session session other)

-- nobody who holds these locks refuses the lock
abbrev Borne : List HeldLock → ℕ → Lock → Type 0
Borne held session lock = blocker_of_lock held session lock ≡ None

each_borne : (held : List HeldLock) (session : ℕ) (set : List Lock) → blocker_of_set held session set ≡ None → AllByRecursion (Borne held session) set
unfolding blocker_of_set
each_borne held session [] e = tt
each_borne held session (lock ∷ set) e =
    let parts = none_of (blocker_of_lock held session lock) (blocker_of_set held session set) e in
    (parts.0, each_borne held session set parts.1)

by_rest : (a : HeldLock) (held : List HeldLock) (session : ℕ) (set : List Lock) → AllByRecursion (Borne (a ∷ held) session) set → AllByRecursion (Borne held session) set
unfolding blocker_of_lock
by_rest a held session [] borne = tt
by_rest a held session (lock ∷ set) borne = ((none_of (refusal session lock a) (blocker_of_lock held session lock) borne.0).1, by_rest a held session set borne.1)

by_first : (a : HeldLock) (held : List HeldLock) (session : ℕ) (set : List Lock) → AllByRecursion (Borne (a ∷ held) session) set → AllByRecursion (Bear a) (map (held_by session) set)
unfolding blocker_of_lock
by_first a held session [] borne = tt
by_first a held session (lock ∷ set) borne = (bears session lock a (none_of (refusal session lock a) (blocker_of_lock held session lock) borne.0).0, by_first a held session set borne.1)

across : (held : List HeldLock) (session : ℕ) (set : List Lock) → AllByRecursion (Borne held session) set → Across held (map (held_by session) set)
across [] session set borne = tt
across (a ∷ held) session set borne = (by_first a held session set borne, across held session set (by_rest a held session set borne))

thinned_if : (passes : Bool) (a : HeldLock) (held : List HeldLock) → AllByRecursion (Bear a) held → Apart held → Apart (cond passes (a ∷ held) held)
thinned_if true a held p apart = (p, apart)
thinned_if false a held p apart = apart

thinned : (passes : HeldLock → Bool) (held : List HeldLock) → Apart held → Apart (filter passes held)
thinned passes [] apart = tt
thinned passes (a ∷ held) apart = thinned_if (passes a) a (filter passes held) (kept (Bear a) passes held apart.0) (thinned passes held apart.1)

-- what was held before the last ask was apart
abbrev WasApart : Option LastAsk → Type 0
WasApart None = Unit {0}
WasApart (Some ask) = Apart ask.before

-- what is held is apart, and was so before the last ask
abbrev IsApart : LockTable → Type 0
IsApart t = Apart t.held × WasApart t.last

asks : (blocker : Option ℕ) (t : LockTable) (session : ℕ) (set : List Lock) → blocker_of_set t.held session set ≡ blocker → IsApart t → IsApart (granted_unless blocker t session set)
asks None t session set e apart = (joined t.held (map (held_by session) set) apart.0 (alone session set) (across t.held session set (each_borne t.held session set e)), apart.0)
asks (Some by) t session set e apart = apart

frees : (is_there : Bool) (t : LockTable) (session : ℕ) → IsApart t → IsApart (freed_if is_there t session)
frees true t session apart = (thinned (λ held. not (nat_eq held.session session)) t.held apart.0, tt)
frees false t session apart = apart

undoes : (last : Option LastAsk) (t : LockTable) → WasApart last → IsApart t → IsApart (before_ask last t)
undoes None t was apart = apart
undoes (Some ask) t was apart = (was, tt)

calls : (t : LockTable) (call : Call) → IsApart t → IsApart (called t call)
calls t (Ask session set) apart = asks (blocker_of_set t.held session set) t session set refl apart
calls t (Free session) apart = frees (list_any (λ held. nat_eq held.session session) t.held) t session apart
calls t Undo apart = undoes t.last t apart.1 apart

all_calls : (t : LockTable) (list : List Call) → IsApart t → IsApart (fold called t list)
all_calls t [] apart = apart
all_calls t (call ∷ list) apart = all_calls (called t call) list (calls t call apart)

pub held_locks_bear : HeldLocksBear
held_locks_bear list = pairs (fold called no_locks list).held (all_calls no_locks list (tt, tt)).0

turned : (p q x y m n : Bool) → p ≡ q → m ≡ n → (p && (x || y) && m) ≡ (q && (y || x) && n)
turned p q true true m n e f = cc
turned p q true false m n e f = cc
turned p q false true m n e f = cc
turned p q false false m n e f = cc

placed : (a b : Lock) → same_place a b ≡ same_place b a
placed a b = ap (λ t. t && nat_eq a.key b.key) (nat_list_eq_equiv.symm a.table b.table) ∙ ap (λ k. pointwise nat_eq b.table a.table && k) (nat_eq_equiv.symm a.key b.key)

pub conflict_both_ways : ConflictBothWays
unfolding conflict
conflict_both_ways a b = turned (same_place a b) (same_place b a) a.exclusive b.exclusive (meets a.span b.span) (meets b.span a.span) (placed a b) (meets_both_ways a.span b.span)

pub grants_whole : GrantsWhole
grants_whole t session set = whole (blocker_of_set t.held session set)
  where
    whole : (blocker : Option ℕ) → ((answer_by blocker ≡ answers.Granted) × ((granted_unless blocker t session set).held ≡ t.held ++ map (held_by session) set)) ⊎ ((answer_by blocker ≢ answers.Granted) × (granted_unless blocker t session set ≡ t))
    whole None = inl (refl, refl)
    whole (Some by) = inr ((λ e. cc), refl)
