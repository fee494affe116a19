-- Who holds a name, as the steps of an attempt change it.
use Rattle.std.proofs.Common.{◌≡◌, ◌≢◌, ℕ, Bool, true, false, not, nat_eq, ◌&&◌, ◌||◌, cond, List, [], ◌∷◌, Option, Some, None, refl, sym, ◌∙◌}
use Rattle.std.proofs.lemmas.Bool.{and_parts, false_from_ne_true, false≢true, or_left, or_right, eqb-true, ne_eqb}
use Rattle.std.specs.Cmp.Lexicographic.{pointwise}
use Rattle.std.specs.List.{list_any}
use Rattle.server_locks.specs.MetadataLocks.Grants.{HeldName, has_name, is_on, holds, holding_session, waiting_session, least_holder, least_waiter, blocker_of_name, blocker_of_names, ahead_of}
use Rattle.server_locks.specs.LeastSession.Least.{least}
use Rattle.server_locks.proofs.LeastSession.Sessions.{none_of}
use Rattle.server_locks.specs.declared.metadata_locks.request.Waiter.{Waiter}

pub both_none : (a b : Option ℕ) → a ≡ None → b ≡ None → least a b ≡ None
both_none a b e f = rw e f

-- a lock that a session holds refuses every other session
refuses : (own on : Bool) (s : ℕ) → own ≡ false → on ≡ true → cond (not own && on) (Some s) None ≡ None → ⊥
refuses true on s e f g = absurd cc
refuses false true s e f g = cc
refuses false false s e f g = absurd cc

either_true : (a b : Bool) → (a || b) ≡ true → (a ≡ false → b ≡ true)
either_true true b e f = absurd cc
either_true false b e f = e

one_other : (other : HeldName) (s l : ℕ) (t : List ℕ) (x : Bool) → s ≢ l → (nat_eq other.session s && is_on other t x) ≡ true → holding_session l t x other ≡ None → ⊥
one_other other s l t x apart h e =
    let parts : (nat_eq other.session s ≡ true) × (is_on other t x ≡ true) = and_parts (nat_eq other.session s) (is_on other t x) h in
    let same : other.session ≡ s = eqb-true other.session s parts.0 in
    refuses (nat_eq other.session l) (is_on other t x) other.session (ne_eqb other.session l (λ same_l. apart (sym same ∙ same_l))) parts.1 e

-- where a session holds a name, another one isn't alone with it
pub not_alone : (held : List HeldName) (s l : ℕ) (t : List ℕ) (x : Bool) → s ≢ l → holds held s t x ≡ true → least_holder held l t x ≡ None → ⊥
unfolding holds least_holder
not_alone [] s l t x apart h e = absurd cc
not_alone (other ∷ held) s l t x apart h e =
    by (nat_eq other.session s && is_on other t x) refl (λ more. not_alone held s l t x apart more ((none_of (holding_session l t x other) (least_holder held l t x) e).1))
  where
    by : (b : Bool) → (nat_eq other.session s && is_on other t x) ≡ b → (holds held s t x ≡ true → ⊥) → ⊥
    by true is again = one_other other s l t x apart is ((none_of (holding_session l t x other) (least_holder held l t x) e).0)
    by false is again = again (either_true (nat_eq other.session s && is_on other t x) (holds held s t x) h is)

-- who holds a name exclusively holds it
weaker_one : (own here strong : Bool) → (own && (here && (strong || false))) ≡ true → (own && (here && (strong || true))) ≡ true
weaker_one true true true e = refl
weaker_one true true false e = absurd cc
weaker_one true false strong e = absurd cc
weaker_one false here strong e = absurd cc

pub weaker : (held : List HeldName) (s : ℕ) (t : List ℕ) → holds held s t true ≡ true → holds held s t false ≡ true
unfolding holds
weaker [] s t h = h
weaker (other ∷ held) s t h = by (nat_eq other.session s && is_on other t true) refl (weaker held s t)
  where
    by : (b : Bool) → (nat_eq other.session s && is_on other t true) ≡ b → (holds held s t true ≡ true → holds held s t false ≡ true) → holds (other ∷ held) s t false ≡ true
    by true is again = or_left (nat_eq other.session s && is_on other t false) (holds held s t false) (weaker_one (nat_eq other.session s) (pointwise nat_eq other.name t) other.exclusive is)
    by false is again = or_right (nat_eq other.session s && is_on other t false) (holds held s t false) (again (either_true (nat_eq other.session s && is_on other t true) (holds held s t true) h is))

-- WHO IS REFUSED

-- what is granted whole is granted each
pub granted_each : (held : List HeldName) (waiting : List Waiter) (s : ℕ) (x : Bool) (names : List (List ℕ)) (t : List ℕ) → blocker_of_names held waiting s x (t ∷ names) ≡ None → blocker_of_name held waiting s t x ≡ None
unfolding blocker_of_names
granted_each held waiting s x names t e = (none_of (blocker_of_name held waiting s t x) (blocker_of_names held waiting s x names) e).0

-- what is granted exclusively nobody else holds
pub granted_alone : (held : List HeldName) (waiting : List Waiter) (s other : ℕ) (t : List ℕ) → other ≢ s → holds held s t true ≡ false → blocker_of_name held waiting s t true ≡ None → holds held other t false ≡ false
unfolding blocker_of_name
granted_alone held waiting s other t apart lacks e =
    let both : least (least_holder held s t false) (least_waiter (ahead_of s waiting) s t) ≡ None = rw lacks at e in
    false_from_ne_true (holds held other t false) (λ has. not_alone held other s t false apart has ((none_of (least_holder held s t false) (least_waiter (ahead_of s waiting) s t) both).0))

-- a session is refused an exclusive lock on what another one holds
pub refused_exclusive : (held : List HeldName) (waiting : List Waiter) (s l : ℕ) (t : List ℕ) → l ≢ s → holds held l t true ≡ true → holds held s t false ≡ false → blocker_of_name held waiting s t true ≡ None → ⊥
refused_exclusive held waiting s l t apart own lacks e =
    let weak : holds held s t true ≡ false = false_from_ne_true (holds held s t true) (λ has. false≢true (sym lacks ∙ weaker held s t has)) in
    false≢true (sym (granted_alone held waiting s l t apart weak e) ∙ weaker held l t own)

pub refused_shared : (held : List HeldName) (waiting : List Waiter) (s l : ℕ) (t : List ℕ) → l ≢ s → holds held l t true ≡ true → blocker_of_name held waiting s t false ≡ None → ⊥
unfolding blocker_of_name
refused_shared held waiting s l t apart own e =
    not_alone held l s t true apart own ((none_of (least_holder held s t true) (cond (holds held s t false) None (least_waiter waiting s t)) e).0)

-- a waiting request refuses whoever holds nothing yet
waiter_refuses : (waiting : List Waiter) (r s : ℕ) (t : List ℕ) → r ≢ s → list_any (λ waiter. nat_eq waiter.session r && has_name waiter.names t) waiting ≡ true → least_waiter waiting s t ≡ None → ⊥
unfolding least_waiter
waiter_refuses [] r s t apart h e = absurd cc
waiter_refuses (other ∷ waiting) r s t apart h e =
    by (nat_eq other.session r && has_name other.names t) refl (λ more. waiter_refuses waiting r s t apart more ((none_of (waiting_session s t other) (least_waiter waiting s t) e).1))
  where
    by : (b : Bool) → (nat_eq other.session r && has_name other.names t) ≡ b → (list_any (λ waiter. nat_eq waiter.session r && has_name waiter.names t) waiting ≡ true → ⊥) → ⊥
    by true is again =
        let parts : (nat_eq other.session r ≡ true) × (has_name other.names t ≡ true) = and_parts (nat_eq other.session r) (has_name other.names t) is in
        refuses (nat_eq other.session s) (has_name other.names t) other.session (ne_eqb other.session s (λ same. apart (sym (eqb-true other.session r parts.0) ∙ same))) parts.1
        ((none_of (waiting_session s t other) (least_waiter waiting s t) e).0)
    by false is again = again (either_true (nat_eq other.session r && has_name other.names t) (list_any (λ waiter. nat_eq waiter.session r && has_name waiter.names t) waiting) h is)

pub waits_after : (held : List HeldName) (waiting : List Waiter) (s r : ℕ) (t : List ℕ) → r ≢ s → holds held s t false ≡ false → list_any (λ waiter. nat_eq waiter.session r && has_name waiter.names t) waiting ≡ true → blocker_of_name held waiting s t false ≡ None → ⊥
unfolding blocker_of_name
waits_after held waiting s r t other lacks waits e =
    let second : cond (holds held s t false) None (least_waiter waiting s t) ≡ None = (none_of (least_holder held s t true) (cond (holds held s t false) None (least_waiter waiting s t)) e).1 in
    let bare : least_waiter waiting s t ≡ None = rw lacks at second in
    waiter_refuses waiting r s t other waits bare
