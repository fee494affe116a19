-- The locks on one key, in order: they are those that are held there, each as often.
use Rattle.std.proofs.Common.{◌≡◌, ◌⊎◌, inl, inr, ◌∙◌, ℕ, zero, suc, not, List, [], ◌∷◌, map, insert, remove, Option, Some, Less, refl, sym, ap, subst}
use Rattle.std.specs.List.{slice_get}
use Rattle.std.specs.List.Sorted.{IsPermutation}
use Rattle.std.proofs.lemmas.List.Sorted.{IsPermutation-refl, IsPermutation-cons, IsPermutation-insert, IsPermutation-trans}
use Rattle.slab.specs.Slab.{Slab, get}
use Rattle.server_locks.specs.declared.row_locks.lock_table.granted_lock.GrantedLock.{GrantedLock}
use Rattle.server_locks.specs.declared.row_locks.lock_table.granted_lock.ListOrder.{ListOrder}
use Rattle.base_page_list.specs.Orders.{Ascending, Has}
use Rattle.server_locks.specs.RowLocks.ListOrders.{compare_slots, slots_of}
use Rattle.base_page_list.proofs.Ascending.{has_all, has_fewer, has_other, has_place, has_at}
use Rattle.server_locks.proofs.RowLocks.LockTable.ListEdits.{less_self, all_slots, map-insert}

-- no entry stands twice
abbrev pub Once : List ℕ → Type 0
Once [] = Unit {0}
Once (x ∷ xs) = (Has xs x → ⊥) × Once xs

pub once : (by : ListOrder) (slab : Slab GrantedLock) (xs : List ℕ) → Ascending (compare_slots by) (slots_of slab xs) → Once xs
once by slab [] asc = tt
once by slab (x ∷ xs) asc =
    (λ has. less_self by (get slab x) (has_all (λ o. compare_slots by (get slab x) (get slab o) ≡ Less) x xs (all_slots (λ (s : Option GrantedLock). compare_slots by (get slab x) s ≡ Less) slab xs asc.0) has), once by slab xs asc.1)

once_removed : (k : ℕ) (xs : List ℕ) → Once xs → Once (remove xs k)
once_removed zero [] once = tt
once_removed (suc k) [] once = tt
once_removed zero (x ∷ xs) once = once.1
once_removed (suc k) (x ∷ xs) once = (λ has. once.0 (has_fewer k x xs has), once_removed k xs once.1)

gone_once : (k x : ℕ) (ys : List ℕ) → Once ys → slice_get ys k ≡ Some x → Has (remove ys k) x → ⊥
gone_once k x [] once at has = absurd (cc)
gone_once zero x (y ∷ ys) once at has = let same : y ≡ x = cc in once.0 (subst (λ (n : ℕ). Has ys n) (sym same) has)
gone_once (suc k) x (y ∷ ys) once at (inl same) = once.0 (subst (λ (n : ℕ). Has ys n) (sym same) (has_at k x ys at))
gone_once (suc k) x (y ∷ ys) once at (inr has) = gone_once k x ys once.1 at has

put_back : (k x : ℕ) (ys : List ℕ) → slice_get ys k ≡ Some x → insert (remove ys k) k x ≡ ys
put_back k x [] at = absurd (cc)
put_back zero x (y ∷ ys) at = let same : y ≡ x = cc in ap (λ (n : ℕ). n ∷ ys) (sym same)
put_back (suc k) x (y ∷ ys) at = ap (λ (es : List ℕ). y ∷ es) (put_back k x ys at)

none_in : {X : Type 0} (f : ℕ → X) (ys : List ℕ) → ((e : ℕ) → Has ys e → ⊥) → IsPermutation [] (map f ys)
none_in f [] none = IsPermutation-refl []
none_in f (y ∷ ys) none = absurd (none y (inl refl))

pub same_shown : {X : Type 0} (f : ℕ → X) (xs ys : List ℕ) → Once xs → Once ys → ((e : ℕ) → Has xs e → Has ys e) → ((e : ℕ) → Has ys e → Has xs e) → IsPermutation (map f xs) (map f ys)
same_shown f [] ys once_x once_y there here = none_in f ys here
same_shown {X = X} f (x ∷ xs) ys once_x once_y there here =
    let place = has_place x ys (there x (inl refl)) in
    let k = place.0 in
    let rest = same_shown f xs (remove ys k) once_x.1 (once_removed k ys once_y)
    (λ e has. has_other k x e ys place.1 (λ same. once_x.0 (subst (λ (n : ℕ). Has xs n) (sym same) has)) (there e (inr has)))
    (λ e has. back (here e (has_fewer k e ys has)) (λ same. gone_once k x ys once_y place.1 (subst (λ (n : ℕ). Has (remove ys k) n) (sym same) has)))
    in
    let added = IsPermutation-trans _ _ _ (IsPermutation-cons (f x) (map f xs) (map f (remove ys k)) rest) (IsPermutation-insert (map f (remove ys k)) k (f x)) in
    subst (λ (es : List X). IsPermutation (f x ∷ map f xs) es) (sym (map-insert f (remove ys k) k x) ∙ ap (map f) (put_back k x ys place.1)) added
  where
    back : {e : ℕ} → (x ≡ e) ⊎ Has xs e → (x ≡ e → ⊥) → Has xs e
    back (inl same) not = absurd (not same)
    back (inr has) not = has
