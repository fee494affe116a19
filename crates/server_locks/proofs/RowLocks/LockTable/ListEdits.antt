-- Lists of entries in order: a put, and a removal.
use Rattle.std.proofs.Common.{◌≡◌, ◌⊎◌, inl, inr, ◌∙◌, ℕ, zero, suc, ◌+◌, ◌≤◌, Bool, true, false, cond, List, [], ◌∷◌, ◌++◌, length, insert, remove, map, Option, Some, None, IsSome, Ordering, Less, Equal, Greater, refl, sym, ap, subst, arith, one-add}
use Rattle.std.specs.Cmp.{nat_cmp_is}
use Rattle.std.specs.Ordering.{is_gt, ordering_reverse}
use Rattle.std.specs.List.{AllByRecursion, prefix_len, slice_get}
use Rattle.std.proofs.lemmas.List.{length-map, map-append}
use Rattle.std.proofs.lemmas.List.Edits.{length-insert, length-remove}
use Rattle.std.proofs.lemmas.List.Sums.{prefix_len-le-length}
use Rattle.std.proofs.lemmas.Option.{slice_get-map, slice_get_within}
use Rattle.std.specs.Option.{option_map}
use Rattle.slab.specs.Slab.{Slab, get, slab_len, Updates}
use Rattle.server_locks.specs.declared.row_locks.lock.HeldLock.{HeldLock}
use Rattle.server_locks.specs.declared.row_locks.lock_table.granted_lock.GrantedLock.{GrantedLock}
use Rattle.server_locks.specs.declared.row_locks.lock_table.granted_lock.ListOrder.{ListOrder}
use Rattle.server_locks.specs.declared.row_locks.lock_table.granted_lock.ListOrder.TheVariants.{Grant}
use Rattle.base_page_list.specs.Orders.{Ascending, Has, is_tied}
use Rattle.server_locks.specs.RowLocks.ListOrders.{compare, compare_slots, slots_of, is_before, place_by}
use Rattle.server_locks.specs.RowLocks.LockLists.{IsListed, HaveSame, IsGrantedBefore, held_of, held_in, locks_of}
use Rattle.base_page_list.proofs.Ascending.{ascending_insert, ascending_remove, stands_by, all_insert, has_new, has_old, has_cases, has_fewer, has_other, has_all, all_has, has_place, has_at, map_same}
use Rattle.server_locks.proofs.RowLocks.LockTable.TotalOrders.{slots_total, same_grant}

abbrev pub Locks : Type 0
Locks = Slab GrantedLock

module _ {X : Type 0} where
  pub map-insert : (f : ℕ → X) (es : List ℕ) (k e : ℕ) → map f (insert es k e) ≡ insert (map f es) k (f e)
  map-insert f es zero e = refl
  map-insert f [] (suc k) e = refl
  map-insert f (x ∷ es) (suc k) e = ap (λ (ys : List X). f x ∷ ys) (map-insert f es k e)

  pub map-remove : (f : ℕ → X) (es : List ℕ) (k : ℕ) → map f (remove es k) ≡ remove (map f es) k
  map-remove f [] zero = refl
  map-remove f [] (suc k) = refl
  map-remove f (x ∷ es) zero = refl
  map-remove f (x ∷ es) (suc k) = ap (λ (ys : List X). f x ∷ ys) (map-remove f es k)

some_not_none : (s : Option GrantedLock) → IsSome s → s ≡ None → ⊥
some_not_none (Some one) some none = absurd (cc)
some_not_none None some none = absurd (cc)

-- A put.
pub kept : (old new : Locks) (entry : ℕ) (slot : Option GrantedLock) (entries : List ℕ) → Updates old new entry slot → AllByRecursion (λ e. IsSome (get old e)) entries → get old entry ≡ None → AllByRecursion (λ e. get new e ≡ get old e) entries
kept old new entry slot [] updates stored none = tt
kept old new entry slot (e ∷ entries) updates stored none =
    (updates.others e (λ same. some_not_none (get old e) stored.0 (ap (λ (n : ℕ). get old n) same ∙ none)), kept old new entry slot entries updates stored.1 none)

pub slots_kept : (old new : Locks) (entries : List ℕ) → AllByRecursion (λ e. get new e ≡ get old e) entries → slots_of new entries ≡ slots_of old entries
slots_kept old new entries same = map_same (get new) (get old) entries same

pub locks_kept : (old new : Locks) (entries : List ℕ) → AllByRecursion (λ e. get new e ≡ get old e) entries → locks_of new entries ≡ locks_of old entries
locks_kept old new [] same = refl
locks_kept old new (e ∷ entries) same = rw (same.0) (ap (λ (ls : List HeldLock). held_of old e ∷ ls) (locks_kept old new entries same.1))

still : (old new : Locks) (entries : List ℕ) → AllByRecursion (λ e. get new e ≡ get old e) entries → AllByRecursion (λ e. IsSome (get old e)) entries → AllByRecursion (λ e. IsSome (get new e)) entries
still old new [] same stored = tt
still old new (e ∷ entries) same stored = (subst (λ (s : Option GrantedLock). IsSome s) (sym same.0) stored.0, still old new entries same.1 stored.1)

-- a lock of a new grant ties with none
not_equal : (o : Ordering) → (o ≡ Equal → ⊥) → is_tied o ≡ false
not_equal Less not = refl
not_equal Equal not = absurd (not refl)
not_equal Greater not = refl

not_tied : (by : ListOrder) (one : GrantedLock) (slot : Option GrantedLock) → IsGrantedBefore one.grant slot → is_tied (compare_slots by (Some one) slot) ≡ false
not_tied by one None before = refl
not_tied by one (Some other) before = not_equal (compare by one other) (λ same. let grants = same_grant by one other same in absurd (omega (arith, before, grants)))

pub none_tied : (by : ListOrder) (one : GrantedLock) (slab : Locks) (entries : List ℕ) → AllByRecursion (λ e. IsGrantedBefore one.grant (get slab e)) entries → AllByRecursion (λ s. is_tied (compare_slots by (Some one) s) ≡ false) (slots_of slab entries)
none_tied by one slab [] before = tt
none_tied by one slab (e ∷ entries) before = (not_tied by one (get slab e) before.0, none_tied by one slab entries before.1)

place_le : (by : ListOrder) (one : GrantedLock) (slab : Locks) (entries : List ℕ) → place_by by one (slots_of slab entries) ≤ length entries
place_le by one slab entries =
    let bound = prefix_len-le-length (is_before by (Some one)) (slots_of slab entries) in
    let size = length-map entries (get slab) in
    omega (arith, bound, size)

pub listed_put : (by : ListOrder) (old new : Locks) (entries entries' : List ℕ) (entry : ℕ) (one : GrantedLock) → IsListed by old entries → AllByRecursion (λ e. IsGrantedBefore one.grant (get old e)) entries → Updates old new entry (Some one) → get old entry ≡ None
    → slab_len new ≡ slab_len old + 1 → entries' ≡ insert entries (place_by by one (slots_of old entries)) entry → IsListed by new entries'
listed_put by old new entries entries' entry one is before updates none more entries_are =
    let k = place_by by one (slots_of old entries) in
    let same = kept old new entry (Some one) entries updates is.stored none in
    let slots : slots_of new (insert entries k entry) ≡ insert (slots_of old entries) k (Some one) =
    map-insert (get new) entries k entry ∙ ap (λ (ss : List (Option GrantedLock)). insert ss k (get new entry)) (slots_kept old new entries same) ∙ ap (λ (s : Option GrantedLock). insert (slots_of old entries) k s) updates.changed
    in
    let entry_stored : IsSome (get new entry) = subst (λ (s : Option GrantedLock). IsSome s) (sym updates.changed) refl in
    let size = length-insert entries k entry (place_le by one old entries) in
    let counted = is.counted in
    rw entries_are
    record {
      stored = all_insert (λ e. IsSome (get new e)) k entry entries entry_stored (still old new entries same is.stored);
      ascends = subst (Ascending (compare_slots by)) (sym slots) (ascending_insert (compare_slots by) (slots_total by) (Some one) (slots_of old entries) (none_tied by one old entries before) is.ascends);
      counted = omega (arith, size, counted, more);
    }

-- a list that is left as it is, while another lock is stored
pub listed_kept : (by : ListOrder) (old new : Locks) (entries : List ℕ) (entry : ℕ) (one : GrantedLock) → IsListed by old entries → Updates old new entry (Some one) → get old entry ≡ None → slab_len new ≡ slab_len old + 1 → IsListed by new entries
listed_kept by old new entries entry one is updates none more =
    let same = kept old new entry (Some one) entries updates is.stored none in
    let counted = is.counted in
    record {
      stored = still old new entries same is.stored;
      ascends = subst (Ascending (compare_slots by)) (sym (slots_kept old new entries same)) is.ascends;
      counted = omega (arith, counted, more);
    }

put_same : (k j entry e : ℕ) (order others : List ℕ) → (Has order e → Has others e) → (entry ≡ e) ⊎ Has order e → Has (insert others j entry) e
put_same k j entry e order others same (inl is) = subst (λ (n : ℕ). Has (insert others j entry) n) is (has_new j entry others)
put_same k j entry e order others same (inr has) = has_old j entry e others (same has)

pub same_put : (k j entry : ℕ) (xs ys xs' ys' : List ℕ) → HaveSame xs ys → xs' ≡ insert xs k entry → ys' ≡ insert ys j entry → HaveSame xs' ys'
same_put k j entry xs ys xs' ys' same xs_are ys_are =
    rw (xs_are, ys_are)
    record {
      there = λ e has. put_same k j entry e xs ys (same.there e) (has_cases k entry e xs has);
      here = λ e has. put_same j k entry e ys xs (same.here e) (has_cases j entry e ys has);
    }

-- A removal.
pub less_self : (by : ListOrder) (slot : Option GrantedLock) → compare_slots by slot slot ≡ Less → ⊥
less_self by slot less =
    let turned = (slots_total by).antisymm slot slot ∙ ap ordering_reverse less in
    absurd (cc)

pub all_slots : (P : Option GrantedLock → Type 0) (slab : Locks) (entries : List ℕ) → AllByRecursion P (slots_of slab entries) → AllByRecursion (λ e. P (get slab e)) entries
all_slots P slab [] all = tt
all_slots P slab (e ∷ entries) all = (all.0, all_slots P slab entries all.1)

-- no entry stands twice
pub gone : (by : ListOrder) (slab : Locks) (k entry : ℕ) (entries : List ℕ) → Ascending (compare_slots by) (slots_of slab entries) → slice_get entries k ≡ Some entry → Has (remove entries k) entry → ⊥
gone by slab k entry [] asc at has = absurd (cc)
gone by slab zero entry (e ∷ entries) asc at has =
    let same : e ≡ entry = cc in
    let less = has_all (λ o. compare_slots by (get slab e) (get slab o) ≡ Less) entry entries (all_slots (λ (s : Option GrantedLock). compare_slots by (get slab e) s ≡ Less) slab entries asc.0) has in
    less_self by (get slab entry) (subst (λ (n : ℕ). compare_slots by (get slab n) (get slab entry) ≡ Less) same less)
gone by slab (suc k) entry (e ∷ entries) asc at (inl same) =
    let less = has_all (λ o. compare_slots by (get slab e) (get slab o) ≡ Less) entry entries (all_slots (λ (s : Option GrantedLock). compare_slots by (get slab e) s ≡ Less) slab entries asc.0) (has_at k entry entries at) in
    less_self by (get slab entry) (subst (λ (n : ℕ). compare_slots by (get slab n) (get slab entry) ≡ Less) same less)
gone by slab (suc k) entry (e ∷ entries) asc at (inr has) = gone by slab k entry entries asc.1 at has

pub left : (old new : Locks) (entry : ℕ) (slot : Option GrantedLock) (entries : List ℕ) → Updates old new entry slot → (Has entries entry → ⊥) → AllByRecursion (λ e. get new e ≡ get old e) entries
left old new entry slot entries updates not_there = all_has (λ e. get new e ≡ get old e) entries (λ e has. updates.others e (λ same. not_there (subst (λ (n : ℕ). Has entries n) same has)))

pub locks_removed : (by : ListOrder) (old new : Locks) (entry : ℕ) (slot : Option GrantedLock) (entries : List ℕ) (k : ℕ) → Updates old new entry slot → Ascending (compare_slots by) (slots_of old entries) → slice_get entries k ≡ Some entry → locks_of new (remove entries k) ≡ remove (locks_of old entries) k
locks_removed by old new entry slot entries k updates asc at =
    locks_kept old new (remove entries k) (left old new entry slot (remove entries k) updates (gone by old k entry entries asc at)) ∙ map-remove (held_of old) entries k

pub listed_remove : (by : ListOrder) (old new : Locks) (entries entries' : List ℕ) (entry k : ℕ) → IsListed by old entries → Updates old new entry None → slab_len new + 1 ≡ slab_len old → slice_get entries k ≡ Some entry → entries' ≡ remove entries k → IsListed by new entries'
listed_remove by old new entries entries' entry k is updates fewer at entries_are =
    let not_there = gone by old k entry entries is.ascends at in
    let same = left old new entry None (remove entries k) updates not_there in
    let slots : slots_of new (remove entries k) ≡ remove (slots_of old entries) k = slots_kept old new (remove entries k) same ∙ map-remove (get old) entries k in
    let size = length-remove entries k (slice_get_within entries k entry at) in
    let counted = is.counted in
    rw entries_are
    record {
      stored = all_has (λ e. IsSome (get new e)) (remove entries k)
          (λ e has. subst (λ (s : Option GrantedLock). IsSome s) (sym (has_all (λ o. get new o ≡ get old o) e (remove entries k) same has)) (has_all (λ o. IsSome (get old o)) e entries is.stored (has_fewer k e entries has)));
      ascends = subst (Ascending (compare_slots by)) (sym slots) (ascending_remove (compare_slots by) k (slots_of old entries) is.ascends);
      counted = omega (arith, size, counted, fewer);
    }

slot_at : (slab : Locks) (entries : List ℕ) (k entry : ℕ) → slice_get entries k ≡ Some entry → slice_get (slots_of slab entries) k ≡ Some (get slab entry)
slot_at slab entries k entry at = slice_get-map (get slab) entries k ∙ ap (λ (o : Option ℕ). option_map (get slab) o) at

-- the entry of a lock is found again at its place
pub again : (by : ListOrder) (slab : Locks) (entries : List ℕ) (entry : ℕ) (one : GrantedLock) → Ascending (compare_slots by) (slots_of slab entries) → Has entries entry → get slab entry ≡ Some one → slice_get entries (place_by by one (slots_of slab entries)) ≡ Some entry
again by slab entries entry one asc has is =
    let place = has_place entry entries has in
    let there = stands_by (compare_slots by) (slots_total by) place.0 (get slab entry) (slots_of slab entries) asc (slot_at slab entries place.0 entry place.1) in
    let there_too : place_by by one (slots_of slab entries) ≡ place.0 = subst (λ (s : Option GrantedLock). prefix_len (is_before by s) (slots_of slab entries) ≡ place.0) is there in
    ap (λ (n : ℕ). slice_get entries n) there_too ∙ place.1

pub same_removed : (by other : ListOrder) (slab : Locks) (k j entry : ℕ) (xs ys xs' ys' : List ℕ) → Ascending (compare_slots by) (slots_of slab xs) → Ascending (compare_slots other) (slots_of slab ys) → HaveSame xs ys → slice_get xs k ≡ Some entry → slice_get ys j ≡ Some entry → xs' ≡ remove xs k → ys' ≡ remove ys j → HaveSame xs' ys'
same_removed by other slab k j entry xs ys xs' ys' asc_x asc_y same at_x at_y xs_are ys_are =
    let not_x = gone by slab k entry xs asc_x at_x in
    let not_y = gone other slab j entry ys asc_y at_y in
    rw (xs_are, ys_are)
    record {
      there = λ e has. has_other j entry e ys at_y (λ is. not_x (subst (λ (m : ℕ). Has (remove xs k) m) (sym is) has)) (same.there e (has_fewer k e xs has));
      here = λ e has. has_other k entry e xs at_x (λ is. not_y (subst (λ (m : ℕ). Has (remove ys j) m) (sym is) has)) (same.here e (has_fewer j e ys has));
    }

-- The last of all grants stands behind the others.
one_more : (b : Bool) (k n : ℕ) → b ≡ true → k ≡ n → cond b (1 + k) 0 ≡ suc n
one_more b k n is same = rw (is, same) (one-add n)

comes_behind : (one : GrantedLock) (slot : Option GrantedLock) → IsGrantedBefore one.grant slot → is_before Grant (Some one) slot ≡ true
comes_behind one None before = refl
comes_behind one (Some other) before = ap is_gt (sym (nat_cmp_is one.grant other.grant Greater before))

pub all_before : (one : GrantedLock) (slab : Locks) (entries : List ℕ) → AllByRecursion (λ e. IsGrantedBefore one.grant (get slab e)) entries → place_by Grant one (slots_of slab entries) ≡ length entries
all_before one slab [] before = refl
all_before one slab (e ∷ entries) before = one_more (is_before Grant (Some one) (get slab e)) (place_by Grant one (slots_of slab entries)) (length entries) (comes_behind one (get slab e) before.0) (all_before one slab entries before.1)

pub insert_last : {X : Type 0} (xs : List X) (n : ℕ) (x : X) → n ≡ length xs → insert xs n x ≡ xs ++ x ∷ []
insert_last {X = X} [] n x is = rw is refl
insert_last {X = X} (y ∷ xs) n x is = rw is (ap (λ (ys : List X). y ∷ ys) (insert_last xs (length xs) x refl))

-- the locks with one more
pub locks_put : (old new : Locks) (entry : ℕ) (one : GrantedLock) (entries entries' : List ℕ) → Updates old new entry (Some one) → AllByRecursion (λ e. IsSome (get old e)) entries → get old entry ≡ None → AllByRecursion (λ e. IsGrantedBefore one.grant (get old e)) entries
    → entries' ≡ insert entries (place_by Grant one (slots_of old entries)) entry → locks_of new entries' ≡ locks_of old entries ++ one.held ∷ []
locks_put old new entry one entries entries' updates stored none before entries_are =
    let same = kept old new entry (Some one) entries updates stored none in
    let last : entries' ≡ entries ++ entry ∷ [] = entries_are ∙ insert_last entries (place_by Grant one (slots_of old entries)) entry (all_before one old entries before) in
    let here : held_of new entry ≡ one.held = ap held_in updates.changed in
    ap (locks_of new) last ∙ map-append (held_of new) entries (entry ∷ []) ∙ ap (λ (ls : List HeldLock). ls ++ held_of new entry ∷ []) (locks_kept old new entries same) ∙ ap (λ (l : HeldLock). locks_of old entries ++ l ∷ []) here

-- the slots with one more
pub slots_put : (old new : Locks) (entry : ℕ) (one : GrantedLock) (entries entries' : List ℕ) → Updates old new entry (Some one) → AllByRecursion (λ e. IsSome (get old e)) entries → get old entry ≡ None → AllByRecursion (λ e. IsGrantedBefore one.grant (get old e)) entries
    → entries' ≡ insert entries (place_by Grant one (slots_of old entries)) entry → slots_of new entries' ≡ slots_of old entries ++ Some one ∷ []
slots_put old new entry one entries entries' updates stored none before entries_are =
    let same = kept old new entry (Some one) entries updates stored none in
    let last : entries' ≡ entries ++ entry ∷ [] = entries_are ∙ insert_last entries (place_by Grant one (slots_of old entries)) entry (all_before one old entries before) in
    ap (slots_of new) last ∙ map-append (get new) entries (entry ∷ []) ∙ ap (λ (ss : List (Option GrantedLock)). ss ++ get new entry ∷ []) (slots_kept old new entries same) ∙ ap (λ (s : Option GrantedLock). slots_of old entries ++ s ∷ []) updates.changed

pub slots_removed : (by : ListOrder) (old new : Locks) (entry : ℕ) (slot : Option GrantedLock) (entries : List ℕ) (k : ℕ) → Updates old new entry slot → Ascending (compare_slots by) (slots_of old entries) → slice_get entries k ≡ Some entry → slots_of new (remove entries k) ≡ remove (slots_of old entries) k
slots_removed by old new entry slot entries k updates asc at =
    slots_kept old new (remove entries k) (left old new entry slot (remove entries k) updates (gone by old k entry entries asc at)) ∙ map-remove (get old) entries k

-- an entry stands at one place alone
pub one_place : (by : ListOrder) (slab : Locks) (entries : List ℕ) (i j entry : ℕ) → Ascending (compare_slots by) (slots_of slab entries) → slice_get entries i ≡ Some entry → slice_get entries j ≡ Some entry → i ≡ j
one_place by slab entries i j entry asc at there =
    sym (stands_by (compare_slots by) (slots_total by) i (get slab entry) (slots_of slab entries) asc (slot_at slab entries i entry at)) ∙ stands_by (compare_slots by) (slots_total by) j (get slab entry) (slots_of slab entries) asc (slot_at slab entries j entry there)
