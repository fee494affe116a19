-- All the lists together: a put, and a removal.
use Rattle.std.proofs.Common.{◌≡◌, ◌⊎◌, inl, inr, ℕ, ◌+◌, ◌≤◌, Bool, true, false, not, cond, List, [], ◌∷◌, length, insert, remove, Option, Some, None, IsSome, refl, sym, subst, arith, Less}
use Rattle.std.specs.List.{AllByRecursion}
use Rattle.std.proofs.lemmas.Option.{slice_get_within}
use Rattle.std.proofs.lemmas.List.Edits.{length-remove}
use Rattle.slab.specs.Slab.{get, slab_len, Updates}
use Rattle.server_locks.specs.declared.row_locks.lock_table.granted_lock.GrantedLock.{GrantedLock}
use Rattle.server_locks.specs.declared.row_locks.lock_table.granted_lock.ListOrder.{ListOrder}
use Rattle.server_locks.specs.declared.row_locks.lock_table.granted_lock.ListOrder.TheVariants.{Grant, Owner, Span}
use Rattle.base_page_list.specs.Orders.{Ascending, Has}
use Rattle.server_locks.specs.RowLocks.ListOrders.{compare_slots, slots_of, place_by}
use Rattle.server_locks.specs.RowLocks.LockLists.{IsListed, HaveWide, AreLists, IsGrantedBefore, IsTaken, IsTakenAt, is_wide}
use Rattle.base_page_list.proofs.Ascending.{all_insert, all_remove, ascending_remove, has_new, has_old, has_cases, has_fewer, has_other, has_all, all_has, has_place}
use Rattle.server_locks.proofs.RowLocks.LockTable.ListEdits.{Locks, map-remove, kept, left, slots_kept, listed_put, listed_kept, listed_remove, same_put, same_removed, gone, less_self, all_slots}

-- A put.
granted_later : (next : ℕ) (slot : Option GrantedLock) → IsGrantedBefore next slot → IsGrantedBefore (next + 1) slot
granted_later next None before = tt
granted_later next (Some one) before = omega (arith, before)

all_later : (next : ℕ) (old new : Locks) (entries : List ℕ) → AllByRecursion (λ e. get new e ≡ get old e) entries → AllByRecursion (λ e. IsGrantedBefore next (get old e)) entries → AllByRecursion (λ e. IsGrantedBefore (next + 1) (get new e)) entries
all_later next old new [] same before = tt
all_later next old new (e ∷ entries) same before = (subst (IsGrantedBefore (next + 1)) (sym same.0) (granted_later next (get old e) before.0), all_later next old new entries same.1 before.1)

moved : (P : ℕ → Type 0) (entries others : List ℕ) → ((e : ℕ) → Has others e → Has entries e) → AllByRecursion P entries → AllByRecursion P others
moved P entries others here all = all_has P others (λ e has. has_all P e entries all (here e has))

wide_there : (old new : Locks) (g w : List ℕ) (entry e k j : ℕ) (one : GrantedLock) → HaveWide old g w → AllByRecursion (λ x. get new x ≡ get old x) g → Updates old new entry (Some one) → (entry ≡ e) ⊎ Has g e → is_wide (get new e) ≡ true → Has (cond (is_wide (Some one)) (insert w j entry) w) e
wide_there old new g w entry e k j one all same updates (inl is) wide =
    let here : is_wide (Some one) ≡ true = subst (λ (s : Option GrantedLock). is_wide s ≡ true) updates.changed (subst (λ (n : ℕ). is_wide (get new n) ≡ true) (sym is) wide) in
    rw here (subst (λ (n : ℕ). Has (insert w j entry) n) is (has_new j entry w))
wide_there old new g w entry e k j one all same updates (inr has) wide =
    let before : is_wide (get old e) ≡ true = subst (λ (s : Option GrantedLock). is_wide s ≡ true) (has_all (λ x. get new x ≡ get old x) e g same has) wide in
    in_either (is_wide (Some one)) (all.there e has before)
  where
    in_either : (b : Bool) → Has w e → Has (cond b (insert w j entry) w) e
    in_either true has = has_old j entry e w has
    in_either false has = has

wide_here : (g w : List ℕ) (entry e k j : ℕ) (b : Bool) → ((x : ℕ) → Has w x → Has g x) → Has (cond b (insert w j entry) w) e → Has (insert g k entry) e
wide_here g w entry e k j true all has = put (has_cases j entry e w has)
  where
    put : (entry ≡ e) ⊎ Has w e → Has (insert g k entry) e
    put (inl is) = subst (λ (n : ℕ). Has (insert g k entry) n) is (has_new k entry g)
    put (inr has) = has_old k entry e g (all e has)
wide_here g w entry e k j false all has = has_old k entry e g (all e has)

listed_if : (b : Bool) (by : ListOrder) (old new : Locks) (w : List ℕ) (entry : ℕ) (one : GrantedLock) → IsListed by old w → AllByRecursion (λ e. IsGrantedBefore one.grant (get old e)) w → Updates old new entry (Some one) → get old entry ≡ None → slab_len new ≡ slab_len old + 1
    → IsListed by new (cond b (insert w (place_by by one (slots_of old w)) entry) w)
listed_if true by old new w entry one is before updates none more = listed_put by old new w (insert w (place_by by one (slots_of old w)) entry) entry one is before updates none more refl
listed_if false by old new w entry one is before updates none more = listed_kept by old new w entry one is updates none more

pub lists_put : (old new : Locks) (g o s w g' o' s' w' : List ℕ) (entry : ℕ) (one : GrantedLock) → AreLists one.grant old g o s w → Updates old new entry (Some one) → get old entry ≡ None → slab_len new ≡ slab_len old + 1
    → g' ≡ insert g (place_by Grant one (slots_of old g)) entry → o' ≡ insert o (place_by Owner one (slots_of old o)) entry → s' ≡ insert s (place_by Span one (slots_of old s)) entry → w' ≡ cond (is_wide (Some one)) (insert w (place_by Span one (slots_of old w)) entry) w
    → AreLists (one.grant + 1) new g' o' s' w'
lists_put old new g o s w g' o' s' w' entry one are updates none more g_is o_is s_is w_is =
    let before_o = moved (λ e. IsGrantedBefore one.grant (get old e)) g o are.owned_all.here are.before in
    let before_s = moved (λ e. IsGrantedBefore one.grant (get old e)) g s are.spans_all.here are.before in
    let before_w = moved (λ e. IsGrantedBefore one.grant (get old e)) g w are.wide_all.here are.before in
    let same = kept old new entry (Some one) g updates are.by_grant.stored none in
    let kg = place_by Grant one (slots_of old g) in
    let kw = place_by Span one (slots_of old w) in
    record {
      by_grant = listed_put Grant old new g g' entry one are.by_grant are.before updates none more g_is;
      by_owner = listed_put Owner old new o o' entry one are.by_owner before_o updates none more o_is;
      by_span = listed_put Span old new s s' entry one are.by_span before_s updates none more s_is;
      by_wide = subst (IsListed Span new) (sym w_is) (listed_if (is_wide (Some one)) Span old new w entry one are.by_wide before_w updates none more);
      owned_all = same_put kg (place_by Owner one (slots_of old o)) entry g o g' o' are.owned_all g_is o_is;
      spans_all = same_put kg (place_by Span one (slots_of old s)) entry g s g' s' are.spans_all g_is s_is;
      wide_all = record {
        there = λ e has wide. subst (λ (es : List ℕ). Has es e) (sym w_is) (wide_there old new g w entry e kg kw one are.wide_all same updates (has_cases kg entry e g (subst (λ (es : List ℕ). Has es e) g_is has)) wide);
        here = λ e has. subst (λ (es : List ℕ). Has es e) (sym g_is) (wide_here g w entry e kg kw (is_wide (Some one)) are.wide_all.here (subst (λ (es : List ℕ). Has es e) w_is has));
      };
      before =
          let here : IsGrantedBefore (one.grant + 1) (get new entry) = subst (IsGrantedBefore (one.grant + 1)) (sym updates.changed) (omega arith) in
          subst (λ (es : List ℕ). AllByRecursion (λ e. IsGrantedBefore (one.grant + 1) (get new e)) es) (sym g_is) (all_insert (λ e. IsGrantedBefore (one.grant + 1) (get new e)) kg entry g here (all_later one.grant old new g same are.before));
    }

-- A removal.
-- entries that stand once, all in another list, are no more than that has
pub fewer_than : (by : ListOrder) (slab : Locks) (xs ys : List ℕ) → Ascending (compare_slots by) (slots_of slab xs) → ((e : ℕ) → Has xs e → Has ys e) → length xs ≤ length ys
fewer_than by slab [] ys asc all = omega arith
fewer_than by slab (x ∷ xs) ys asc all =
    let place = has_place x ys (all x (inl refl)) in
    let less = all_slots (λ (s : Option GrantedLock). compare_slots by (get slab x) s ≡ Less) slab xs asc.0 in
    let others = fewer_than by slab xs (remove ys place.0) asc.1
    (λ e has. has_other place.0 x e ys place.1 (λ same. less_self by (get slab x) (subst (λ (n : ℕ). compare_slots by (get slab x) (get slab n) ≡ Less) (sym same) (has_all (λ o. compare_slots by (get slab x) (get slab o) ≡ Less) e xs less has))) (all e (inr has)))
    in
    let size = length-remove ys place.0 (slice_get_within ys place.0 x place.1) in
    omega (arith, others, size)

pub taken_at : (k entry : ℕ) (xs xs' : List ℕ) → IsTaken k entry xs xs' → Has xs entry → IsTakenAt k entry xs xs'
taken_at k entry xs xs' (inl at) has = at
taken_at k entry xs xs' (inr not) has = absurd (not.not_there has)

before_left : (next : ℕ) (old new : Locks) (entries : List ℕ) → AllByRecursion (λ e. get new e ≡ get old e) entries → AllByRecursion (λ e. IsGrantedBefore next (get old e)) entries → AllByRecursion (λ e. IsGrantedBefore next (get new e)) entries
before_left next old new [] same before = tt
before_left next old new (e ∷ entries) same before = (subst (IsGrantedBefore next) (sym same.0) before.0, before_left next old new entries same.1 before.1)

-- what is left of a list from which the entry was taken, if it was there: the entry isn't there, nothing is new, all else is
-- left, and it stands in order
record IsLeft (entry : ℕ) (slab : Locks) (w w' : List ℕ) : Type 0 where
  not_there : Has w' entry → ⊥
  none_new : (e : ℕ) → Has w' e → Has w e
  others : (e : ℕ) → (entry ≡ e → ⊥) → Has w e → Has w' e
  ascends : Ascending (compare_slots Span) (slots_of slab w')

taken_wide : (slab : Locks) (kw entry : ℕ) (w w' : List ℕ) → Ascending (compare_slots Span) (slots_of slab w) → IsTaken kw entry w w' → IsLeft entry slab w w'
taken_wide slab kw entry w w' asc (inl at) =
    rw (at.rest)
    record {
      not_there = gone Span slab kw entry w asc at.at;
      none_new = λ e has. has_fewer kw e w has;
      others = λ e not has. has_other kw entry e w at.at not has;
      ascends = subst (Ascending (compare_slots Span)) (sym (map-remove (get slab) w kw)) (ascending_remove (compare_slots Span) kw (slots_of slab w) asc);
    }
taken_wide slab kw entry w w' asc (inr not) =
    record {
      not_there = λ has. not.not_there (subst (λ (es : List ℕ). Has es entry) not.same has);
      none_new = λ e has. subst (λ (es : List ℕ). Has es e) not.same has;
      others = λ e other has. subst (λ (es : List ℕ). Has es e) (sym not.same) has;
      ascends = subst (λ (es : List ℕ). Ascending (compare_slots Span) (slots_of slab es)) (sym not.same) asc;
    }

pub lists_taken : (next : ℕ) (old new : Locks) (g o s w g' o' s' w' : List ℕ) (entry kg ko ks kw : ℕ) → AreLists next old g o s w → Updates old new entry None → slab_len new + 1 ≡ slab_len old → Has g entry
    → IsTaken kg entry g g' → IsTaken ko entry o o' → IsTaken ks entry s s' → IsTaken kw entry w w' → AreLists next new g' o' s' w'
lists_taken next old new g o s w g' o' s' w' entry kg ko ks kw are updates fewer has take_g take_o take_s take_w =
    let at_g = taken_at kg entry g g' take_g has in
    let at_o = taken_at ko entry o o' take_o (are.owned_all.there entry has) in
    let at_s = taken_at ks entry s s' take_s (are.spans_all.there entry has) in
    let by_grant = listed_remove Grant old new g g' entry kg are.by_grant updates fewer at_g.at at_g.rest in
    let gone_g = gone Grant old kg entry g are.by_grant.ascends at_g.at in
    let same_g : AllByRecursion (λ e. get new e ≡ get old e) g' = subst (λ (es : List ℕ). AllByRecursion (λ e. get new e ≡ get old e) es) (sym at_g.rest) (left old new entry None (remove g kg) updates gone_g) in
    let left_w = taken_wide old kw entry w w' are.by_wide.ascends take_w in
    let wide_in : (e : ℕ) → Has w' e → Has g' e = λ e has. subst (λ (es : List ℕ). Has es e) (sym at_g.rest) (has_other kg entry e g at_g.at (λ is. left_w.not_there (subst (λ (m : ℕ). Has w' m) (sym is) has)) (are.wide_all.here e (left_w.none_new e has))) in
    let same_w = left old new entry None w' updates left_w.not_there in
    record {
      by_grant = by_grant;
      by_owner = listed_remove Owner old new o o' entry ko are.by_owner updates fewer at_o.at at_o.rest;
      by_span = listed_remove Span old new s s' entry ks are.by_span updates fewer at_s.at at_s.rest;
      by_wide =
          let ascends : Ascending (compare_slots Span) (slots_of new w') = subst (Ascending (compare_slots Span)) (sym (slots_kept old new w' same_w)) left_w.ascends in
          let size = fewer_than Span new w' g' ascends wide_in in
          let counted = by_grant.counted in
          record {
            stored = all_has (λ e. IsSome (get new e)) w' (λ e has. has_all (λ o. IsSome (get new o)) e g' by_grant.stored (wide_in e has));
            ascends = ascends;
            counted = omega (arith, size, counted);
          };
      owned_all = same_removed Grant Owner old kg ko entry g o g' o' are.by_grant.ascends are.by_owner.ascends are.owned_all at_g.at at_o.at at_g.rest at_o.rest;
      spans_all = same_removed Grant Span old kg ks entry g s g' s' are.by_grant.ascends are.by_span.ascends are.spans_all at_g.at at_s.at at_g.rest at_s.rest;
      wide_all = record {
        there = λ e has wide.
            let before : Has (remove g kg) e = subst (λ (es : List ℕ). Has es e) at_g.rest has in
            let old_wide : is_wide (get old e) ≡ true = subst (λ (s : Option GrantedLock). is_wide s ≡ true) (has_all (λ x. get new x ≡ get old x) e g' same_g has) wide in
            left_w.others e (λ is. gone_g (subst (λ (m : ℕ). Has (remove g kg) m) (sym is) before)) (are.wide_all.there e (has_fewer kg e g before) old_wide);
        here = wide_in;
      };
      before = before_left next old new g' same_g (subst (λ (es : List ℕ). AllByRecursion (λ e. IsGrantedBefore next (get old e)) es) (sym at_g.rest) (all_remove (λ e. IsGrantedBefore next (get old e)) kg g are.before));
    }

-- Lists that are as they were.
listed_same : (by : ListOrder) (old : Locks) (vacant room : ℕ) (entries : List ℕ) → IsListed by old entries → IsListed by (record { slots = old.slots; vacant_key = vacant; capacity = room }) entries
listed_same by old vacant room entries is = record { stored = is.stored; ascends = is.ascends; counted = is.counted }

slots_same : (next : ℕ) (old : Locks) (vacant room : ℕ) (g o s w : List ℕ) → AreLists next old g o s w → AreLists next (record { slots = old.slots; vacant_key = vacant; capacity = room }) g o s w
slots_same next old vacant room g o s w are = record {
  by_grant = listed_same Grant old vacant room g are.by_grant;
  by_owner = listed_same Owner old vacant room o are.by_owner;
  by_span = listed_same Span old vacant room s are.by_span;
  by_wide = listed_same Span old vacant room w are.by_wide;
  owned_all = are.owned_all;
  spans_all = are.spans_all;
  wide_all = record { there = are.wide_all.there; here = are.wide_all.here };
  before = are.before;
}

pub lists_same : (next : ℕ) (old new : Locks) (g o s w g' o' s' w' : List ℕ) → AreLists next old g o s w → new.slots ≡ old.slots → g' ≡ g → o' ≡ o → s' ≡ s → w' ≡ w → AreLists next new g' o' s' w'
lists_same next old new g o s w g' o' s' w' are same g_is o_is s_is w_is =
    rw (g_is, o_is, s_is, w_is) (subst (λ (slots : List (Option GrantedLock)). AreLists next (record { slots = slots; vacant_key = new.vacant_key; capacity = new.capacity }) g o s w) (sym same) (slots_same next old new.vacant_key new.capacity g o s w are))
