-- Where the locks on one key stand, and that they rise there.
use Rattle.std.proofs.Common.{◌≡◌, inl, inr, ◌∙◌, ℕ, zero, suc, ◌-◌, Bool, true, false, nat_eq, cond, List, [], ◌∷◌, map, filter, take, drop, Option, Some, None, IsSome, Ordering, Less, Equal, Greater, refl, sym, ap, subst}
use Rattle.std.specs.List.{AllByRecursion, prefix_len}
use Rattle.std.specs.List.Sorted.{IsPermutation}
use Rattle.std.specs.Cmp.Lexicographic.{pointwise, slice_cmp, bytes_decides}
use Rattle.std.specs.Ordering.{is_gt, is_ge, ordering_then, nat_cmp}
use Rattle.std.proofs.lemmas.Bool.{and_parts, and_from, eqb-true, eq-eqb}
use Rattle.std.proofs.lemmas.Cmp.{tied_itself, nat_cmp_total, nat_list_cmp_total}
use Rattle.std.proofs.lemmas.Map.Lookups.{exact_unsigned, exact_bytes}
use Rattle.slab.specs.Slab.{Slab, get}
use Rattle.base_values.proofs.Orders.{both_Equal}
use Rattle.base_page_list.specs.Pages.{between}
use Rattle.server_locks.specs.declared.row_locks.lock.HeldLock.{HeldLock}
use Rattle.server_locks.specs.declared.row_locks.lock_table.granted_lock.GrantedLock.{GrantedLock}
use Rattle.server_locks.specs.declared.row_locks.lock_table.granted_lock.ListOrder.TheVariants.{Grant, Span}
use Rattle.base_page_list.specs.Orders.{Ascending, Has}
use Rattle.server_locks.specs.RowLocks.ListOrders.{compare_lows, compare_places, compare_owners, compare_grants, compare_slots, slots_of}
use Rattle.server_locks.specs.RowLocks.LockLists.{AreLists, held_of, held_in, locks_of}
use Rattle.server_locks.specs.RowLocks.HeldSpans.{is_on, compare_held, Rises, AreOn}
use Rattle.server_locks.specs.RowLocks.ListOrders.{compare_key, is_on_earlier_key, is_on_key_or_earlier}
use Rattle.server_locks.proofs.RowLocks.LockTable.ListEdits.{all_slots}
use Rattle.base_page_list.proofs.Ascending.{has_all}
use Rattle.server_locks.proofs.RowLocks.LockTable.KeyRuns.{probe, earlier_keys_fail, keys_up_to_fail}
use Rattle.server_locks.proofs.RowLocks.LockTable.Runs.{has_between, between_has, has_taken, taken_passes, dropped_fails, before_second}
use Rattle.server_locks.proofs.RowLocks.LockTable.Permutations.{Once, once, same_shown}
use Rattle.server_locks.proofs.RowLocks.LockTable.TotalOrders.{places_total}

-- Those on the key stand between.
key_equal : (table : List ℕ) (key : ℕ) (one : GrantedLock) → is_on table key one.held ≡ true → compare_key table key one.held.lock ≡ Equal
key_equal table key one on =
    let parts = and_parts (pointwise nat_eq table one.held.lock.table) (nat_eq key one.held.lock.key) on in
    let tables : table ≡ one.held.lock.table = (bytes_decides table one.held.lock.table).0 parts.0 in
    let keys : key ≡ one.held.lock.key = eqb-true key one.held.lock.key parts.1 in
    ap (λ (o : Ordering). ordering_then o (nat_cmp key one.held.lock.key)) (subst (λ (t : List ℕ). slice_cmp nat_cmp table t ≡ Equal) tables (tied_itself nat_list_cmp_total table))
    ∙ subst (λ (k : ℕ). nat_cmp key k ≡ Equal) keys (tied_itself nat_cmp_total key)

on_less : (table : List ℕ) (key : ℕ) (slot : Option GrantedLock) → IsSome slot → is_on table key (held_in slot) ≡ true → is_on_earlier_key table key slot ≡ false
on_less table key None some on = absurd cc
on_less table key (Some one) some on = ap is_gt (key_equal table key one on)

on_at_most : (table : List ℕ) (key : ℕ) (slot : Option GrantedLock) → IsSome slot → is_on table key (held_in slot) ≡ true → is_on_key_or_earlier table key slot ≡ true
on_at_most table key None some on = refl
on_at_most table key (Some one) some on = ap is_ge (key_equal table key one on)

both_ends : (o : Ordering) → is_gt o ≡ false → is_ge o ≡ true → o ≡ Equal
both_ends Less up ge = absurd cc
both_ends Equal up ge = refl
both_ends Greater up ge = absurd cc

on_from : (table : List ℕ) (key : ℕ) (slot : Option GrantedLock) → is_on_earlier_key table key slot ≡ false → is_on_key_or_earlier table key slot ≡ true → is_on table key (held_in slot) ≡ true
on_from table key None less most = absurd cc
on_from table key (Some one) less most =
    let both = both_Equal (slice_cmp nat_cmp table one.held.lock.table) (nat_cmp key one.held.lock.key) (both_ends (compare_key table key one.held.lock) less most) in
    and_from _ _ ((bytes_decides table one.held.lock.table).1 (exact_bytes table one.held.lock.table both.0)) (eq-eqb key one.held.lock.key (exact_unsigned key one.held.lock.key both.1))

-- Filters.
has_kept : (test : ℕ → Bool) (xs : List ℕ) (e : ℕ) → Has xs e → test e ≡ true → Has (filter test xs) e
has_kept test [] e has on = absurd has
has_kept test (x ∷ xs) e (inl same) on = let at : test x ≡ true = ap test same ∙ on in rw at (inl same)
has_kept test (x ∷ xs) e (inr has) on = either (test x) (has_kept test xs e has on)
  where
    either : (b : Bool) → Has (filter test xs) e → Has (cond b (x ∷ filter test xs) (filter test xs)) e
    either true has = inr has
    either false has = has

-- of a filter's entries
record IsPassing (test : ℕ → Bool) (xs : List ℕ) (e : ℕ) : Type 0 where
  has : Has xs e
  on : test e ≡ true

kept_by : (test : ℕ → Bool) (x : ℕ) (xs : List ℕ) (e : ℕ) (b : Bool) → test x ≡ b → (Has (filter test xs) e → IsPassing test xs e) → Has (cond b (x ∷ filter test xs) (filter test xs)) e → IsPassing test (x ∷ xs) e
kept_by test x xs e true at rest (inl same) = record { has = inl same; on = ap test (sym same) ∙ at }
kept_by test x xs e true at rest (inr has) = let there = rest has in record { has = inr there.has; on = there.on }
kept_by test x xs e false at rest has = let there = rest has in record { has = inr there.has; on = there.on }

kept_from : (test : ℕ → Bool) (xs : List ℕ) (e : ℕ) → Has (filter test xs) e → IsPassing test xs e
kept_from test [] e has = absurd has
kept_from test (x ∷ xs) e has = kept_by test x xs e (test x) refl (kept_from test xs e) has

once_kept_by : (test : ℕ → Bool) (x : ℕ) (xs : List ℕ) (b : Bool) → (Has xs x → ⊥) → Once (filter test xs) → Once (cond b (x ∷ filter test xs) (filter test xs))
once_kept_by test x xs true not rest = (λ has. not (kept_from test xs x has).has, rest)
once_kept_by test x xs false not rest = rest

once_kept : (test : ℕ → Bool) (xs : List ℕ) → Once xs → Once (filter test xs)
once_kept test [] once = tt
once_kept test (x ∷ xs) once = once_kept_by test x xs (test x) once.0 (once_kept test xs once.1)

map_kept : {X : Type 0} (f : ℕ → X) (test : X → Bool) (xs : List ℕ) → map f (filter (λ e. test (f e)) xs) ≡ filter test (map f xs)
map_kept f test [] = refl
map_kept {X = X} f test (x ∷ xs) = by (test (f x)) (map_kept f test xs)
  where
    by : (b : Bool) → map f (filter (λ e. test (f e)) xs) ≡ filter test (map f xs) → map f (cond b (x ∷ filter (λ e. test (f e)) xs) (filter (λ e. test (f e)) xs)) ≡ cond b (f x ∷ filter test (map f xs)) (filter test (map f xs))
    by true same = ap (λ (ys : List X). f x ∷ ys) same
    by false same = same

-- Entries that rise.
abbrev Climbs : Slab GrantedLock → List ℕ → Type 0
Climbs slab [] = Unit {0}
Climbs slab (x ∷ xs) = AllByRecursion (λ o. compare_slots Span (get slab x) (get slab o) ≡ Less) xs × Climbs slab xs

climbs : (slab : Slab GrantedLock) (xs : List ℕ) → Ascending (compare_slots Span) (slots_of slab xs) → Climbs slab xs
climbs slab [] asc = tt
climbs slab (x ∷ xs) asc = (all_slots (λ (s : Option GrantedLock). compare_slots Span (get slab x) s ≡ Less) slab xs asc.0, climbs slab xs asc.1)

all_taken : (P : ℕ → Type 0) (n : ℕ) (xs : List ℕ) → AllByRecursion P xs → AllByRecursion P (take n xs)
all_taken P zero xs all = tt
all_taken P (suc n) [] all = tt
all_taken P (suc n) (x ∷ xs) all = (all.0, all_taken P n xs all.1)

climbs_taken : (slab : Slab GrantedLock) (n : ℕ) (xs : List ℕ) → Climbs slab xs → Climbs slab (take n xs)
climbs_taken slab zero xs up = tt
climbs_taken slab (suc n) [] up = tt
climbs_taken slab (suc n) (x ∷ xs) up = (all_taken (λ o. compare_slots Span (get slab x) (get slab o) ≡ Less) n xs up.0, climbs_taken slab n xs up.1)

climbs_dropped : (slab : Slab GrantedLock) (n : ℕ) (xs : List ℕ) → Climbs slab xs → Climbs slab (drop n xs)
climbs_dropped slab zero xs up = up
climbs_dropped slab (suc n) [] up = tt
climbs_dropped slab (suc n) (x ∷ xs) up = climbs_dropped slab n xs up.1

held_up : (l s g : Ordering) → ordering_then l (ordering_then s g) ≡ Less → is_gt (ordering_then l s) ≡ false
held_up Less s g less = refl
held_up Equal Less g less = refl
held_up Equal Equal g less = refl
held_up Equal Greater g less = absurd cc
held_up Greater s g less = absurd cc

one_up : (table : List ℕ) (key : ℕ) (a b : Option GrantedLock) → IsSome a → IsSome b → is_on table key (held_in a) ≡ true → is_on table key (held_in b) ≡ true → compare_slots Span a b ≡ Less → is_gt (compare_held (held_in a) (held_in b)) ≡ false
unfolding probe
one_up table key None b some_a some_b on_a on_b less = absurd cc
one_up table key (Some a) None some_a some_b on_a on_b less = absurd cc
one_up table key (Some a) (Some b) some_a some_b on_a on_b less =
    let places : compare_places a.held.lock b.held.lock ≡ Equal = sym (places_total.congr (probe table key) a.held.lock b.held.lock (key_equal table key a on_a)) ∙ key_equal table key b on_b in
    held_up (compare_lows a.held.lock.span.low b.held.lock.span.low) (nat_cmp a.held.session b.held.session) (compare_grants a b)
    (sym (ap (λ (o : Ordering). ordering_then (ordering_then o (compare_lows a.held.lock.span.low b.held.lock.span.low)) (compare_owners a b)) places) ∙ less)

-- what each entry has
record IsThere (table : List ℕ) (key : ℕ) (slab : Slab GrantedLock) (entry : ℕ) : Type 0 where
  some : IsSome (get slab entry)
  on : is_on table key (held_of slab entry) ≡ true

all_up : (table : List ℕ) (key : ℕ) (slab : Slab GrantedLock) (x : ℕ) (xs : List ℕ) → IsThere table key slab x → ((e : ℕ) → Has xs e → IsThere table key slab e) → AllByRecursion (λ o. compare_slots Span (get slab x) (get slab o) ≡ Less) xs → AllByRecursion (λ other. is_gt (compare_held (held_of slab x) other) ≡ false) (locks_of slab xs)
all_up table key slab x [] here each up = tt
all_up table key slab x (y ∷ xs) here each up =
    let there = each y (inl refl) in
    (one_up table key (get slab x) (get slab y) here.some there.some here.on there.on up.0, all_up table key slab x xs here (λ e has. each e (inr has)) up.1)

rises : (table : List ℕ) (key : ℕ) (slab : Slab GrantedLock) (xs : List ℕ) → ((e : ℕ) → Has xs e → IsThere table key slab e) → Climbs slab xs → Rises (locks_of slab xs)
rises table key slab [] each up = tt
rises table key slab (x ∷ xs) each up = (all_up table key slab x xs (each x (inl refl)) (λ e has. each e (inr has)) up.0, rises table key slab xs (λ e has. each e (inr has)) up.1)

once_taken : (n : ℕ) (xs : List ℕ) → Once xs → Once (take n xs)
once_taken zero xs once = tt
once_taken (suc n) [] once = tt
once_taken (suc n) (x ∷ xs) once = (λ has. once.0 (has_taken n x xs has), once_taken n xs once.1)

once_dropped : (n : ℕ) (xs : List ℕ) → Once xs → Once (drop n xs)
once_dropped zero xs once = once
once_dropped (suc n) [] once = tt
once_dropped (suc n) (x ∷ xs) once = once_dropped n xs once.1

pub shown_are : (table : List ℕ) (key next : ℕ) (slab : Slab GrantedLock) (g o s w : List ℕ) → AreLists next slab g o s w
    → AreOn table key (locks_of slab g) (locks_of slab (between (prefix_len (λ e. is_on_earlier_key table key (get slab e)) s) (prefix_len (λ e. is_on_key_or_earlier table key (get slab e)) s) s))
shown_are table key next slab g o s w are =
    let p = prefix_len (λ e. is_on_earlier_key table key (get slab e)) s in
    let q = prefix_len (λ e. is_on_key_or_earlier table key (get slab e)) s in
    let less = earlier_keys_fail table key slab s are.by_span.ascends in
    let most = keys_up_to_fail table key slab s are.by_span.ascends in
    let each : (e : ℕ) → Has (between p q s) e → IsThere table key slab e =
    λ e has. record {
      some = has_all (λ x. IsSome (get slab x)) e s are.by_span.stored (between_has p q e s has);
      on = on_from table key (get slab e) (dropped_fails (λ x. is_on_earlier_key table key (get slab x)) s e less (has_taken (q - p) e (drop p s) has)) (taken_passes (λ x. is_on_key_or_earlier table key (get slab x)) s e (before_second p q e s has));
    }
    in
    record {
      rises = rises table key slab (between p q s) each (climbs_taken slab (q - p) (drop p s) (climbs_dropped slab p s (climbs slab s are.by_span.ascends)));
      are =
          subst (λ (ls : List HeldLock). IsPermutation ls (locks_of slab (between p q s))) (map_kept (held_of slab) (is_on table key) g)
          (same_shown (held_of slab) (filter (λ e. is_on table key (held_of slab e)) g) (between p q s) (once_kept (λ e. is_on table key (held_of slab e)) g (once Grant slab g are.by_grant.ascends)) (once_taken (q - p) (drop p s) (once_dropped p s (once Span slab s are.by_span.ascends)))
          (λ e has.
          let there = kept_from (λ x. is_on table key (held_of slab x)) g e has in
          let some = has_all (λ x. IsSome (get slab x)) e g are.by_grant.stored there.has in
          has_between (λ x. is_on_earlier_key table key (get slab x)) (λ x. is_on_key_or_earlier table key (get slab x)) s e less most (are.spans_all.there e there.has) (on_less table key (get slab e) some there.on) (on_at_most table key (get slab e) some there.on))
          (λ e has. has_kept (λ x. is_on table key (held_of slab x)) g e (are.spans_all.here e (between_has p q e s has)) (each e has).on));
    }
