-- Which locks are left.
use Rattle.std.proofs.Common.{◌≡◌, inl, inr, ◌∙◌, ℕ, zero, suc, ◌+◌, ◌≤◌, ◌<◌, Bool, true, false, not, ◌||◌, nat_eq, cond, List, [], ◌∷◌, ◌++◌, length, take, remove, filter, map, Option, Some, None, IsSome, Ordering, Less, Equal, Greater, refl, sym, ap, subst, arith, one-add}
use Rattle.std.specs.List.{AllByRecursion, prefix_len, list_any, slice_get}
use Rattle.std.specs.Ordering.{is_gt, is_eq, nat_cmp}
use Rattle.std.proofs.lemmas.Bool.{eqb-true, eq-eqb, true≢false, false_from_ne_true}
use Rattle.std.proofs.lemmas.Cmp.{upto, tied_itself, alike_right, nat_cmp_total}
use Rattle.std.proofs.lemmas.Map.Lookups.{exact_unsigned}
use Rattle.slab.specs.Slab.{Slab, get}
use Rattle.std.proofs.lemmas.List.{take_all}
use Rattle.base_page_list.specs.Pages.{FailsOn}
use Rattle.std.proofs.lemmas.List.Sums.{prefix_len-le-length}
use Rattle.std.specs.Cmp.{nat_cmp_is}
use Rattle.std.proofs.lemmas.Bool.Decides.{eqb_tells}
use Rattle.base_page_list.proofs.Tested.{none_before, before_stop}
use Rattle.server_locks.specs.declared.row_locks.lock.HeldLock.{HeldLock}
use Rattle.server_locks.specs.declared.row_locks.lock_table.granted_lock.GrantedLock.{GrantedLock}
use Rattle.server_locks.specs.declared.row_locks.lock_table.granted_lock.ListOrder.TheVariants.{Grant, Owner}
use Rattle.base_page_list.specs.Orders.{Ascending, Has}
use Rattle.server_locks.specs.RowLocks.ListOrders.{compare_grants, compare_slots, slots_of}
use Rattle.server_locks.specs.RowLocks.LockLists.{held_of, held_in, locks_of, IsGrantedBefore}
use Rattle.server_locks.specs.RowLocks.Releases.{is_of_lesser, is_of, is_granted_before, locks_before}
use Rattle.base_page_list.proofs.Ascending.{fails_map}
use Rattle.server_locks.proofs.RowLocks.LockTable.TotalOrders.{fails_from, less_then}

lesser_on : (session : ℕ) (a b : Option GrantedLock) → compare_slots Owner a b ≡ Less → is_of_lesser session a ≡ false → is_of_lesser session b ≡ false
lesser_on session None b less fails = absurd cc
lesser_on session (Some a) None less fails = absurd cc
lesser_on session (Some a) (Some b) less fails = upto nat_cmp_total session a.held.session b.held.session fails (less_then (nat_cmp a.held.session b.held.session) (compare_grants a b) less)

grants_on : (first : ℕ) (a b : Option GrantedLock) → compare_slots Grant a b ≡ Less → is_granted_before first a ≡ false → is_granted_before first b ≡ false
grants_on first None b less fails = absurd cc
grants_on first (Some a) None less fails = absurd cc
grants_on first (Some a) (Some b) less fails = upto nat_cmp_total first a.grant b.grant fails (ap is_gt less)

pub lesser_fail : (session : ℕ) (slab : Slab GrantedLock) (entries : List ℕ) → Ascending (compare_slots Owner) (slots_of slab entries) → FailsOn (λ e. is_of_lesser session (get slab e)) entries
lesser_fail session slab entries asc = fails_map (get slab) (is_of_lesser session) entries (fails_from Owner (is_of_lesser session) (lesser_on session) (slots_of slab entries) asc)

pub slots_fail : (first : ℕ) (slots : List (Option GrantedLock)) → Ascending (compare_slots Grant) slots → FailsOn (is_granted_before first) slots
slots_fail first slots asc = fails_from Grant (is_granted_before first) (grants_on first) slots asc

pub grants_fail : (first : ℕ) (slab : Slab GrantedLock) (entries : List ℕ) → Ascending (compare_slots Grant) (slots_of slab entries) → FailsOn (λ e. is_granted_before first (get slab e)) entries
grants_fail first slab entries asc = fails_map (get slab) (is_granted_before first) entries (slots_fail first (slots_of slab entries) asc)

-- None of a session's.
greater_other : (o : Ordering) → is_gt o ≡ true → is_eq o ≡ false
greater_other Less e = absurd cc
greater_other Equal e = absurd cc
greater_other Greater e = refl

lesser_other : (session : ℕ) (slot : Option GrantedLock) → is_of_lesser session slot ≡ true → is_of session slot ≡ false
lesser_other session None lesser = refl
lesser_other session (Some one) lesser = greater_other (nat_cmp session one.held.session) lesser

is_less : (o : Ordering) → is_gt o ≡ false → is_eq o ≡ false → o ≡ Less
is_less Less up other = refl
is_less Equal up other = absurd cc
is_less Greater up other = absurd cc

less_by : (session a b : ℕ) (o : Ordering) → nat_cmp a b ≡ o → is_gt o ≡ false → nat_cmp session a ≡ Less → nat_cmp session b ≡ Less
less_by session a b Less is up less = nat_cmp_total.trans session a b less is
less_by session a b Equal is up less = sym (alike_right nat_cmp_total a b session is) ∙ less
less_by session a b Greater is up less = absurd cc

later_other : (session : ℕ) (a b : Option GrantedLock) → compare_slots Owner a b ≡ Less → is_of_lesser session a ≡ false → is_of session a ≡ false → is_of session b ≡ false
later_other session None b less lesser other = absurd cc
later_other session (Some a) None less lesser other = absurd cc
later_other session (Some a) (Some b) less lesser other =
    ap is_eq (less_by session a.held.session b.held.session (nat_cmp a.held.session b.held.session) refl (less_then (nat_cmp a.held.session b.held.session) (compare_grants a b) less) (is_less (nat_cmp session a.held.session) lesser other))

later_others : (session : ℕ) (a : Option GrantedLock) (slab : Slab GrantedLock) (entries : List ℕ) → AllByRecursion (λ b. compare_slots Owner a b ≡ Less) (slots_of slab entries) → is_of_lesser session a ≡ false → is_of session a ≡ false → AllByRecursion (λ e. is_of session (get slab e) ≡ false) entries
later_others session a slab [] less lesser other = tt
later_others session a slab (e ∷ entries) less lesser other = (later_other session a (get slab e) less.0 lesser other, later_others session a slab entries less.1 lesser other)

none_by : (session : ℕ) (slab : Slab GrantedLock) (x : ℕ) (entries : List ℕ) (b : Bool) → is_of_lesser session (get slab x) ≡ b → Ascending (compare_slots Owner) (slots_of slab (x ∷ entries))
    → ((e : ℕ) → slice_get (x ∷ entries) (cond (is_of_lesser session (get slab x)) (1 + prefix_len (λ e. is_of_lesser session (get slab e)) entries) 0) ≡ Some e → is_of session (get slab e) ≡ false)
    → (((e : ℕ) → slice_get entries (prefix_len (λ e. is_of_lesser session (get slab e)) entries) ≡ Some e → is_of session (get slab e) ≡ false) → AllByRecursion (λ e. is_of session (get slab e) ≡ false) entries)
    → AllByRecursion (λ e. is_of session (get slab e) ≡ false) (x ∷ entries)
none_by session slab x entries true lesser asc there rest =
    (lesser_other session (get slab x) lesser, rest (λ e at. there e (rw (lesser, one-add (prefix_len (λ e. is_of_lesser session (get slab e)) entries)) at)))
none_by session slab x entries false lesser asc there rest =
    let other : is_of session (get slab x) ≡ false = there x (rw lesser refl) in
    (other, later_others session (get slab x) slab entries asc.0 lesser other)

pub none_of : (session : ℕ) (slab : Slab GrantedLock) (entries : List ℕ) → Ascending (compare_slots Owner) (slots_of slab entries) → ((e : ℕ) → slice_get entries (prefix_len (λ e. is_of_lesser session (get slab e)) entries) ≡ Some e → is_of session (get slab e) ≡ false) → AllByRecursion (λ e. is_of session (get slab e) ≡ false) entries
none_of session slab [] asc there = tt
none_of session slab (x ∷ entries) asc there = none_by session slab x entries (is_of_lesser session (get slab x)) refl asc there (λ here. none_of session slab entries asc.1 here)

-- In the words of the plain list.
of_is : (session : ℕ) (slot : Option GrantedLock) → IsSome slot → nat_eq (held_in slot).session session ≡ is_of session slot
of_is session None some = absurd cc
of_is session (Some one) some = same (is_eq (nat_cmp session one.held.session)) refl
  where
    equal : (o : Ordering) → is_eq o ≡ true → o ≡ Equal
    equal Less e = absurd cc
    equal Equal e = refl
    equal Greater e = absurd cc

    same : (b : Bool) → is_eq (nat_cmp session one.held.session) ≡ b → nat_eq one.held.session session ≡ is_eq (nat_cmp session one.held.session)
    same true is = eq-eqb one.held.session session (sym (exact_unsigned session one.held.session (equal (nat_cmp session one.held.session) is))) ∙ sym is
    same false is =
        false_from_ne_true (nat_eq one.held.session session)
        (λ at. let alike : one.held.session ≡ session = eqb-true one.held.session session at in
        true≢false (sym (ap is_eq (subst (λ (n : ℕ). nat_cmp session n ≡ Equal) (sym alike) (tied_itself nat_cmp_total session))) ∙ is))
        ∙ sym is

pub any_of : (session : ℕ) (slab : Slab GrantedLock) (entries : List ℕ) → AllByRecursion (λ e. IsSome (get slab e)) entries → AllByRecursion (λ e. is_of session (get slab e) ≡ false) entries → list_any (λ held. nat_eq held.session session) (locks_of slab entries) ≡ false
any_of session slab [] stored none = refl
any_of session slab (e ∷ entries) stored none = rw (of_is session (get slab e) stored.0, none.0) (any_of session slab entries stored.1 none.1)

or_true : (b c : Bool) → c ≡ true → b || c ≡ true
or_true true c is = refl
or_true false c is = is

pub some_of : (session : ℕ) (slab : Slab GrantedLock) (entries : List ℕ) (e : ℕ) → AllByRecursion (λ e. IsSome (get slab e)) entries → Has entries e → is_of session (get slab e) ≡ true → list_any (λ held. nat_eq held.session session) (locks_of slab entries) ≡ true
some_of session slab [] e stored has is = absurd has
some_of session slab (x ∷ entries) e stored (inl same) is =
    let here : is_of session (get slab x) ≡ true = subst (λ (n : ℕ). is_of session (get slab n) ≡ true) (sym same) is in
    rw (of_is session (get slab x) stored.0, here) refl
some_of session slab (x ∷ entries) e stored (inr has) is = or_true _ _ (some_of session slab entries e stored.1 has is)

-- what passes no test is left whole
pub all_left : (session : ℕ) (locks : List HeldLock) → list_any (λ held. nat_eq held.session session) locks ≡ false → filter (λ held. not (nat_eq held.session session)) locks ≡ locks
all_left session [] none = refl
all_left session (l ∷ locks) none = by (nat_eq l.session session) refl none (all_left session locks)
  where
    by : (b : Bool) → nat_eq l.session session ≡ b → nat_eq l.session session || list_any (λ held. nat_eq held.session session) locks ≡ false → (list_any (λ held. nat_eq held.session session) locks ≡ false → filter (λ held. not (nat_eq held.session session)) locks ≡ locks) → cond (not (nat_eq l.session session)) (l ∷ filter (λ held. not (nat_eq held.session session)) locks) (filter (λ held. not (nat_eq held.session session)) locks) ≡ l ∷ locks
    by true is none rest = absurd (true≢false (sym (ap (λ (d : Bool). d || list_any (λ held. nat_eq held.session session) locks) is) ∙ none))
    by false is none rest = rw is (ap (λ (ls : List HeldLock). l ∷ ls) (rest (sym (ap (λ (d : Bool). d || list_any (λ held. nat_eq held.session session) locks) is) ∙ none)))

-- a lock of the session more or less is no matter
pub one_less : (session : ℕ) (slab : Slab GrantedLock) (entries : List ℕ) (k e : ℕ) → AllByRecursion (λ e. IsSome (get slab e)) entries → slice_get entries k ≡ Some e → is_of session (get slab e) ≡ true → filter (λ held. not (nat_eq held.session session)) (remove (locks_of slab entries) k) ≡ filter (λ held. not (nat_eq held.session session)) (locks_of slab entries)
one_less session slab [] k e stored at is = absurd cc
one_less session slab (x ∷ entries) zero e stored at is =
    let same : x ≡ e = cc in
    let here : is_of session (get slab x) ≡ true = subst (λ (n : ℕ). is_of session (get slab n) ≡ true) (sym same) is in
    rw (of_is session (get slab x) stored.0, here) refl
one_less session slab (x ∷ entries) (suc k) e stored at is =
    ap (λ (ls : List HeldLock). cond (not (nat_eq (held_of slab x).session session)) (held_of slab x ∷ ls) ls) (one_less session slab entries k e stored.1 at is)

-- What was granted before.
-- the place of the first that fails, and what stands before it, without it
pub record KeepsBefore {X : Type 0} (test : X → Bool) (xs : List X) (k : ℕ) : Type 0 where
  pub place : prefix_len test (remove xs k) ≡ k
  pub before : take k (remove xs k) ≡ take k xs

first_passes_by : {X : Type 0} (test : X → Bool) (x : X) (ys : List X) (k : ℕ) → test x ≡ true → prefix_len test ys ≡ k → prefix_len test (x ∷ ys) ≡ suc k
first_passes_by test x ys k at is = rw (at, is) (one-add k)

same_by : {X : Type 0} (test : X → Bool) (x : X) (xs : List X) (b : Bool) → test x ≡ b → FailsOn test (x ∷ xs) → (b ≡ true → KeepsBefore test xs (prefix_len test xs)) → KeepsBefore test (x ∷ xs) (cond (test x) (1 + prefix_len test xs) 0)
same_by {X = X} test x xs true at fails rest =
    let is : cond (test x) (1 + prefix_len test xs) 0 ≡ suc (prefix_len test xs) = rw at (one-add (prefix_len test xs)) in
    subst (λ (n : ℕ). KeepsBefore test (x ∷ xs) n) (sym is)
    (record {
      place = first_passes_by test x (remove xs (prefix_len test xs)) (prefix_len test xs) at (rest refl).place;
      before = ap (λ (ys : List X). x ∷ ys) (rest refl).before;
    })
same_by {X = X} test x xs false at fails rest =
    let is : cond (test x) (1 + prefix_len test xs) 0 ≡ 0 = rw at refl in
    subst (λ (n : ℕ). KeepsBefore test (x ∷ xs) n) (sym is) (record { place = none_before test xs (fails.0 at); before = refl })

pub before_same : {X : Type 0} (test : X → Bool) (xs : List X) → FailsOn test xs → prefix_len test xs < length xs → KeepsBefore test xs (prefix_len test xs)
before_same test [] fails within = absurd (omega arith)
before_same {X = X} test (x ∷ xs) fails within = same_by test x xs (test x) refl fails (λ at. before_same test xs fails.1 (shorter at))
  where
    shorter : test x ≡ true → prefix_len test xs < length xs
    shorter at = let more = first_passes_by test x xs (prefix_len test xs) at refl in omega (arith, within, more)

-- the locks before, without the first that isn't
pub locks_same : (first : ℕ) (slots slots' : List (Option GrantedLock)) (k : ℕ) → Ascending (compare_slots Grant) slots → k ≡ prefix_len (is_granted_before first) slots → k < length slots → slots' ≡ remove slots k → locks_before first slots' ≡ locks_before first slots
locks_same first slots slots' k asc is within slots_are =
    let same = before_same (is_granted_before first) slots (slots_fail first slots asc) (subst (λ (n : ℕ). n < length slots) is within) in
    let here : slots' ≡ remove slots (prefix_len (is_granted_before first) slots) = slots_are ∙ ap (λ (n : ℕ). remove slots n) is in
    ap (locks_before first) here
    ∙ ap (λ (n : ℕ). map held_in (take n (remove slots (prefix_len (is_granted_before first) slots)))) same.place
    ∙ ap (map held_in) same.before

pub maps : (slab : Slab GrantedLock) (entries : List ℕ) → locks_of slab entries ≡ map held_in (slots_of slab entries)
maps slab [] = refl
maps slab (e ∷ entries) = ap (λ (ls : List HeldLock). held_of slab e ∷ ls) (maps slab entries)

-- all locks, where all were granted before
pub locks_all : (first : ℕ) (slab : Slab GrantedLock) (entries : List ℕ) → length (slots_of slab entries) ≤ prefix_len (is_granted_before first) (slots_of slab entries) → locks_of slab entries ≡ locks_before first (slots_of slab entries)
locks_all first slab entries over = maps slab entries ∙ ap (map held_in) (sym (take_all (prefix_len (is_granted_before first) (slots_of slab entries)) (slots_of slab entries) over))

-- one that was granted later is no matter
not_gt_by : (m n : ℕ) → m ≤ n → is_gt (nat_cmp m n) ≡ false
not_gt_by m n le =
    elim (eqb_tells m n) [
      | inl same ↦ ap is_gt (sym (nat_cmp_is m n Equal same.1))
      | inr other ↦ let apart = other.1 in ap is_gt (sym (nat_cmp_is m n Less (omega (arith, le, apart))))
    ]

take_before : {X : Type 0} (y : X) (n : ℕ) (xs : List X) → n ≤ length xs → take n (xs ++ y ∷ []) ≡ take n xs
take_before y zero xs le = refl
take_before y (suc n) [] le = absurd (omega (arith, le))
take_before {X = X} y (suc n) (x ∷ xs) le = ap (λ (ys : List X). x ∷ ys) (take_before y n xs (omega (arith, le)))

pub locks_more : (first : ℕ) (slots : List (Option GrantedLock)) (one : GrantedLock) → first ≤ one.grant → locks_before first (slots ++ Some one ∷ []) ≡ locks_before first slots
locks_more first slots one later =
    let fails : is_granted_before first (Some one) ≡ false = not_gt_by first one.grant later in
    let none : prefix_len (is_granted_before first) (Some one ∷ []) ≡ 0 = rw fails refl in
    let place = before_stop (is_granted_before first) slots (Some one ∷ []) none in
    ap (λ (n : ℕ). map held_in (take n (slots ++ Some one ∷ []))) place ∙ ap (map held_in) (take_before (Some one) (prefix_len (is_granted_before first) slots) slots (prefix_len-le-length (is_granted_before first) slots))

passes_all : (first : ℕ) (slot : Option GrantedLock) → IsGrantedBefore first slot → is_granted_before first slot ≡ true
passes_all first None before = refl
passes_all first (Some one) before = ap is_gt (sym (nat_cmp_is first one.grant Greater before))

all_counted : (first : ℕ) (slab : Slab GrantedLock) (entries : List ℕ) → AllByRecursion (λ e. IsGrantedBefore first (get slab e)) entries → prefix_len (is_granted_before first) (slots_of slab entries) ≡ length (slots_of slab entries)
all_counted first slab [] before = refl
all_counted first slab (e ∷ entries) before = first_passes_by (is_granted_before first) (get slab e) (slots_of slab entries) (length (slots_of slab entries)) (passes_all first (get slab e) before.0) (all_counted first slab entries before.1)

pub all_granted : (first : ℕ) (slab : Slab GrantedLock) (entries : List ℕ) → AllByRecursion (λ e. IsGrantedBefore first (get slab e)) entries → locks_before first (slots_of slab entries) ≡ locks_of slab entries
all_granted first slab entries before = let count = all_counted first slab entries before in sym (locks_all first slab entries (omega (arith, count)))
