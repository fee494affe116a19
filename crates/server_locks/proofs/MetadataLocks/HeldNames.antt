-- Calls keep the names of different sessions apart.
use Rattle.std.proofs.Common.{◌≡◌, ◌≢◌, ℕ, Bool, true, false, not, nat_eq, ◌&&◌, ◌||◌, cond, List, [], ◌∷◌, ◌++◌, map, filter, fold, Option, Some, None, refl, sym, ap, ◌∙◌, inl, inr, arith}
use Rattle.std.specs.Cmp.Lexicographic.{pointwise}
use Rattle.std.specs.List.{AllByRecursion, AllPairs}
use Rattle.std.proofs.lemmas.Bool.{and_parts, eqb-true, ne_eqb, or_cases}
use Rattle.std.proofs.lemmas.Cmp.{nat_list_eq_equiv}
use Rattle.std.proofs.lemmas.List.Elements.{All-from_recursion}
use Rattle.std.proofs.lemmas.List.Kept.{AllPairs-cons}
use Rattle.server_locks.specs.declared.metadata_locks.request.Waiter.{Waiter}
use Rattle.server_locks.specs.MetadataLocks.Grants.{HeldName, QueuePlace, place_of, ahead_of, holds, is_on, holding_session, least_holder, least_waiter, blocker_of_name, blocker_of_names}
use Rattle.server_locks.specs.LeastSession.Least.{least}
use Rattle.server_locks.proofs.LeastSession.Kept.{both, kept}
use Rattle.server_locks.proofs.LeastSession.Sessions.{none_of, not_refused}
use Rattle.server_locks.specs.MetadataLocks.LockTable.{NameTable, LastAsk, held_by, added, asked_by, blocker_of, polled_by, polled_at, freed_if, is_known, undone_last, ended_at, held_before}
use Rattle.server_locks.specs.MetadataLocks.Laws.{Call, called, no_names, Bear, HeldNamesBear}
use Rattle.server_locks.specs.MetadataLocks.Laws.Call.{Ask, Poll, Free, Undo, End}

-- each lock is compatible with all later ones
abbrev Apart : List HeldName → Type 0
Apart [] = Unit {0}
Apart (a ∷ held) = AllByRecursion (Bear a) held × Apart held

pairs : (held : List HeldName) → Apart held → AllPairs Bear held
pairs [] apart = λ i j d before within. absurd (omega arith)
pairs (a ∷ held) apart = AllPairs-cons Bear a held (All-from_recursion (Bear a) held apart.0) (pairs held apart.1)

-- each lock of the first list is compatible with all of the second
abbrev Across : List HeldName → List HeldName → Type 0
Across [] more = Unit {0}
Across (a ∷ held) more = AllByRecursion (Bear a) more × Across held more

joined : (held more : List HeldName) → Apart held → Apart more → Across held more → Apart (held ++ more)
joined [] more p q across = q
joined (a ∷ held) more p q across = (both (Bear a) held more p.0 across.0, joined held more p.1 q across.1)

own : (session : ℕ) (exclusive : Bool) (name : List ℕ) (names : List (List ℕ)) → AllByRecursion (Bear (held_by session exclusive name)) (map (held_by session exclusive) names)
own session exclusive name [] = tt
own session exclusive name (next ∷ names) = ((λ other. absurd (other refl)), own session exclusive name names)

alone : (session : ℕ) (exclusive : Bool) (names : List (List ℕ)) → Apart (map (held_by session exclusive) names)
alone session exclusive [] = tt
alone session exclusive (name ∷ names) = (own session exclusive name names, alone session exclusive names)

-- no other session that holds the name refuses it
abbrev Free_of : List HeldName → ℕ → List ℕ → Bool → Type 0
Free_of held session name exclusive = least_holder held session name exclusive ≡ None

here : (a : HeldName) (held : List HeldName) (session : ℕ) (name : List ℕ) (exclusive : Bool) → Free_of (a ∷ held) session name exclusive → a.session ≢ session → is_on a name exclusive ≡ false
unfolding least_holder
here a held session name exclusive free other =
    not_refused (nat_eq a.session session) (is_on a name exclusive) a.session (none_of (holding_session session name exclusive a) (least_holder held session name exclusive) free).0 (ne_eqb a.session session other)

rest : (a : HeldName) (held : List HeldName) (session : ℕ) (name : List ℕ) (exclusive : Bool) → Free_of (a ∷ held) session name exclusive → Free_of held session name exclusive
unfolding least_holder
rest a held session name exclusive free = (none_of (holding_session session name exclusive a) (least_holder held session name exclusive) free).1

-- each lock is compatible with the session's on this name
abbrev Bears : List HeldName → HeldName → Type 0
Bears held lock = AllByRecursion (λ a. Bear a lock) held

by_shared : (held : List HeldName) (session : ℕ) (name : List ℕ) → Free_of held session name true → Bears held (held_by session false name)
by_shared [] session name free = tt
by_shared (a ∷ held) session name free = (here a held session name true free, by_shared held session name (rest a held session name true free))

by_exclusive : (held : List HeldName) (session : ℕ) (name : List ℕ) → Free_of held session name false → Bears held (held_by session true name)
by_exclusive [] session name free = tt
by_exclusive (a ∷ held) session name free = (here a held session name false free, by_exclusive held session name (rest a held session name false free))

only : (x : Bool) → (x || false) ≡ true → x ≡ true
only true e = refl
only false e = e

apart_by_first : (same x y : Bool) → (same && (x || y)) ≡ false → x ≡ true → same ≡ false
apart_by_first true true y e f = absurd cc
apart_by_first true false y e f = absurd cc
apart_by_first false x y e f = refl

apart_by_second : (same x y : Bool) → (same && (x || y)) ≡ false → y ≡ true → same ≡ false
apart_by_second true true true e f = absurd cc
apart_by_second true false true e f = absurd cc
apart_by_second true x false e f = absurd cc
apart_by_second false x y e f = refl

on_other : (b : HeldName) (name : List ℕ) → pointwise nat_eq b.name name ≡ false → (pointwise nat_eq b.name name && (b.exclusive || true)) ≡ false
on_other b name e = ap (λ same. same && (b.exclusive || true)) e

-- what the session holds exclusively on the name
abbrev IsOwn : HeldName → ℕ → List ℕ → Type 0
IsOwn a session name = (a.session ≡ session) × (pointwise nat_eq a.name name ≡ true) × (a.exclusive ≡ true)

own_of : (a : HeldName) (session : ℕ) (name : List ℕ) → (nat_eq a.session session && is_on a name true) ≡ true → IsOwn a session name
own_of a session name e =
    let parts = and_parts (nat_eq a.session session) (is_on a name true) e in
    let on = and_parts (pointwise nat_eq a.name name) (a.exclusive || false) parts.1 in
    (eqb-true a.session session parts.0, on.0, only a.exclusive on.1)

-- a lock of another session that is compatible with the session's own is on another name
after_own : (a b : HeldName) (session : ℕ) (name : List ℕ) → IsOwn a session name → Bear a b → b.session ≢ session → pointwise nat_eq b.name name ≡ false
after_own a b session name is bear other =
    nat_list_eq_equiv.symm b.name name
    ∙ sym (nat_list_eq_equiv.congr a.name name b.name is.1)
    ∙ apart_by_first (pointwise nat_eq a.name b.name) a.exclusive b.exclusive (bear (λ e. other (sym e ∙ is.0))) is.2

before_own : (a b : HeldName) (session : ℕ) (name : List ℕ) → IsOwn b session name → Bear a b → a.session ≢ session → pointwise nat_eq a.name name ≡ false
before_own a b session name is bear other =
    nat_list_eq_equiv.symm a.name name
    ∙ sym (nat_list_eq_equiv.congr b.name name a.name is.1)
    ∙ nat_list_eq_equiv.symm b.name a.name
    ∙ apart_by_second (pointwise nat_eq a.name b.name) a.exclusive b.exclusive (bear (λ e. other (e ∙ is.0))) is.2

all_after : (a : HeldName) (held : List HeldName) (session : ℕ) (name : List ℕ) → IsOwn a session name → AllByRecursion (Bear a) held → Bears held (held_by session true name)
all_after a [] session name is bears = tt
all_after a (b ∷ held) session name is bears = ((λ other. on_other b name (after_own a b session name is bears.0 other)), all_after a held session name is bears.1)

before_some : (a : HeldName) (held : List HeldName) (session : ℕ) (name : List ℕ) → holds held session name true ≡ true → AllByRecursion (Bear a) held → a.session ≢ session → pointwise nat_eq a.name name ≡ false
unfolding holds
before_some a [] session name e bears other = absurd cc
before_some a (b ∷ held) session name e bears other =
    elim (or_cases (nat_eq b.session session && is_on b name true) (holds held session name true) e) [
      | inl is ↦ before_own a b session name (own_of b session name is) bears.0 other
      | inr later ↦ before_some a held session name later bears.1 other
    ]

by_own : (held : List HeldName) (session : ℕ) (name : List ℕ) → holds held session name true ≡ true → Apart held → Bears held (held_by session true name)
unfolding holds
by_own [] session name e apart = absurd cc
by_own (a ∷ held) session name e apart =
    elim (or_cases (nat_eq a.session session && is_on a name true) (holds held session name true) e) [
      | inl is ↦ ((λ other. absurd (other (own_of a session name is).0)), all_after a held session name (own_of a session name is) apart.0)
      | inr later ↦ ((λ other. on_other a name (before_some a held session name later apart.0 other)), by_own held session name later apart.1)
    ]

if_free : (holding : Bool) (held : List HeldName) (session : ℕ) (name : List ℕ) (waiter : Option ℕ) → holds held session name true ≡ holding → cond holding None (least (least_holder held session name false) waiter) ≡ None → Apart held → Bears held (held_by session true name)
if_free true held session name waiter e free apart = by_own held session name e apart
if_free false held session name waiter e free apart = by_exclusive held session name (none_of (least_holder held session name false) waiter free).0

-- nobody refuses the name to the session
abbrev Granted : List HeldName → List Waiter → ℕ → Bool → List ℕ → Type 0
Granted held waiting session exclusive name = blocker_of_name held waiting session name exclusive ≡ None

name_bears : (held : List HeldName) (waiting : List Waiter) (session : ℕ) (exclusive : Bool) (name : List ℕ) → Granted held waiting session exclusive name → Apart held → Bears held (held_by session exclusive name)
unfolding blocker_of_name
name_bears held waiting session true name e apart = if_free (holds held session name true) held session name (least_waiter (ahead_of session waiting) session name) refl e apart
name_bears held waiting session false name e apart = by_shared held session name (none_of (least_holder held session name true) (cond (holds held session name false) None (least_waiter waiting session name)) e).0

each_granted : (held : List HeldName) (waiting : List Waiter) (session : ℕ) (exclusive : Bool) (names : List (List ℕ)) → blocker_of_names held waiting session exclusive names ≡ None → AllByRecursion (Granted held waiting session exclusive) names
unfolding blocker_of_names
each_granted held waiting session exclusive [] e = tt
each_granted held waiting session exclusive (name ∷ names) e =
    let parts = none_of (blocker_of_name held waiting session name exclusive) (blocker_of_names held waiting session exclusive names) e in
    (parts.0, each_granted held waiting session exclusive names parts.1)

each_bears : (held : List HeldName) (waiting : List Waiter) (session : ℕ) (exclusive : Bool) (names : List (List ℕ)) → AllByRecursion (Granted held waiting session exclusive) names → Apart held → AllByRecursion (λ name. Bears held (held_by session exclusive name)) names
each_bears held waiting session exclusive [] granted apart = tt
each_bears held waiting session exclusive (name ∷ names) granted apart = (name_bears held waiting session exclusive name granted.0 apart, each_bears held waiting session exclusive names granted.1 apart)

of_first : (a : HeldName) (held : List HeldName) (session : ℕ) (exclusive : Bool) (names : List (List ℕ)) → AllByRecursion (λ name. Bears (a ∷ held) (held_by session exclusive name)) names → AllByRecursion (Bear a) (map (held_by session exclusive) names)
of_first a held session exclusive [] bears = tt
of_first a held session exclusive (name ∷ names) bears = (bears.0.0, of_first a held session exclusive names bears.1)

of_rest : (a : HeldName) (held : List HeldName) (session : ℕ) (exclusive : Bool) (names : List (List ℕ)) → AllByRecursion (λ name. Bears (a ∷ held) (held_by session exclusive name)) names → AllByRecursion (λ name. Bears held (held_by session exclusive name)) names
of_rest a held session exclusive [] bears = tt
of_rest a held session exclusive (name ∷ names) bears = (bears.0.1, of_rest a held session exclusive names bears.1)

across : (held : List HeldName) (session : ℕ) (exclusive : Bool) (names : List (List ℕ)) → AllByRecursion (λ name. Bears held (held_by session exclusive name)) names → Across held (map (held_by session exclusive) names)
across [] session exclusive names bears = tt
across (a ∷ held) session exclusive names bears = (of_first a held session exclusive names bears, across held session exclusive names (of_rest a held session exclusive names bears))

thinned_if : (passes : Bool) (a : HeldName) (held : List HeldName) → AllByRecursion (Bear a) held → Apart held → Apart (cond passes (a ∷ held) held)
thinned_if true a held p apart = (p, apart)
thinned_if false a held p apart = apart

thinned : (passes : HeldName → Bool) (held : List HeldName) → Apart held → Apart (filter passes held)
thinned passes [] apart = tt
thinned passes (a ∷ held) apart = thinned_if (passes a) a (filter passes held) (kept (Bear a) passes held apart.0) (thinned passes held apart.1)

with_added : (held : List HeldName) (session : ℕ) (exclusive : Bool) (names : List (List ℕ)) → AllByRecursion (λ name. Bears held (held_by session exclusive name)) names → Apart held → Apart (held ++ added held session exclusive names)
with_added held session true names bears apart = joined held (map (held_by session true) names) apart (alone session true names) (across held session true names bears)
with_added held session false names bears apart =
    let lacked : List (List ℕ) = filter (λ name. not (holds held session name false)) names in
    joined held (map (held_by session false) lacked) apart (alone session false lacked) (across held session false lacked (kept (λ name. Bears held (held_by session false name)) (λ name. not (holds held session name false)) names bears))

-- what was held before the last ask or poll was apart
abbrev WasApart : Option LastAsk → Type 0
WasApart None = Unit {0}
WasApart (Some ask) = Apart ask.held

-- what is held is apart, and was so before the last ask or poll
abbrev IsApart : NameTable → Type 0
IsApart t = Apart t.held × WasApart t.last

grants : (t : NameTable) (session : ℕ) (exclusive : Bool) (names : List (List ℕ)) → blocker_of t session exclusive names ≡ None → Apart t.held → Apart (t.held ++ added t.held session exclusive names)
grants t session exclusive names e apart = with_added t.held session exclusive names (each_bears t.held t.waiting session exclusive names (each_granted t.held t.waiting session exclusive names e) apart) apart

asks : (blocker : Option ℕ) (t : NameTable) (session : ℕ) (exclusive : Bool) (names : List (List ℕ)) → blocker_of t session exclusive names ≡ blocker → IsApart t → IsApart (asked_by blocker t session exclusive names)
asks None t session exclusive names e apart = (grants t session exclusive names e apart.0, apart.0)
asks (Some by) t session true names e apart = (apart.0, apart.0)
asks (Some by) t session false names e apart = apart

polls_by : (blocker : Option ℕ) (t : NameTable) (session : ℕ) (place : QueuePlace) → blocker_of t session true place.request.names ≡ blocker → IsApart t → IsApart (polled_by blocker t session place)
polls_by None t session place e apart = (grants t session true place.request.names e apart.0, apart.0)
polls_by (Some by) t session place e apart = apart

polls : (place : Option QueuePlace) (t : NameTable) (session : ℕ) → IsApart t → IsApart (polled_at t session place)
polls None t session apart = apart
polls (Some place) t session apart = polls_by (blocker_of t session true place.request.names) t session place refl apart

frees : (known : Bool) (t : NameTable) (session : ℕ) → IsApart t → IsApart (freed_if known t session)
frees true t session apart = (thinned (λ held. not (nat_eq held.session session)) t.held apart.0, tt)
frees false t session apart = apart

undoes : (last : Option LastAsk) (t : NameTable) → WasApart last → IsApart t → IsApart (undone_last last t)
undoes None t was apart = apart
undoes (Some ask) t was apart = (was, tt)

before_last : (last : Option LastAsk) (t : NameTable) → WasApart last → IsApart t → Apart (held_before last t)
before_last None t was apart = apart.0
before_last (Some ask) t was apart = was

ends : (place : Option QueuePlace) (t : NameTable) → IsApart t → IsApart (ended_at place t)
ends None t apart = (before_last t.last t apart.1 apart, tt)
ends (Some place) t apart = (apart.0, tt)

calls : (t : NameTable) (call : Call) → IsApart t → IsApart (called t call)
calls t (Ask session exclusive names) apart = asks (blocker_of t session exclusive names) t session exclusive names refl apart
calls t (Poll session) apart = polls (place_of session t.waiting) t session apart
calls t (Free session) apart = frees (is_known t session) t session apart
calls t Undo apart = undoes t.last t apart.1 apart
calls t (End session) apart = ends (place_of session t.waiting) t apart

all_calls : (t : NameTable) (list : List Call) → IsApart t → IsApart (fold called t list)
all_calls t [] apart = apart
all_calls t (call ∷ list) apart = all_calls (called t call) list (calls t call apart)

pub held_names_bear : HeldNamesBear
held_names_bear list = pairs (fold called no_names list).held (all_calls no_names list (tt, tt)).0
