-- Lists in order, and the entries that they have.
use Rattle.std.proofs.Common.{sym, ◌≡◌, ◌⊎◌, inl, inr, ◌∙◌, ℕ, zero, suc, ◌+◌, Bool, false, cond, List, [], ◌∷◌, map, insert, remove, ◌-◌, Some, Ordering, Less, Equal, Greater, refl, ap, subst, one-add}
use Rattle.std.specs.Cmp.{IsTotalOrder}
use Rattle.std.specs.Ordering.{is_gt, ordering_reverse}
use Rattle.std.specs.List.{AllByRecursion, prefix_len, slice_get}
use Rattle.base_page_list.specs.Pages.{FailsOn, first_passes, last_page}
use Rattle.base_page_list.specs.Orders.{Ascending, Has, is_tied}

module _ {X : Type 0} where
  pub all_insert : (P : X → Type 0) (k : ℕ) (x : X) (ys : List X) → P x → AllByRecursion P ys → AllByRecursion P (insert ys k x)
  all_insert P zero x ys p all = (p, all)
  all_insert P (suc k) x [] p all = (p, tt)
  all_insert P (suc k) x (y ∷ ys) p all = (all.0, all_insert P k x ys p all.1)

  pub all_remove : (P : X → Type 0) (k : ℕ) (ys : List X) → AllByRecursion P ys → AllByRecursion P (remove ys k)
  all_remove P zero [] all = tt
  all_remove P (suc k) [] all = tt
  all_remove P zero (y ∷ ys) all = all.1
  all_remove P (suc k) (y ∷ ys) all = (all.0, all_remove P k ys all.1)

  pub all_at : (P : X → Type 0) (k : ℕ) (x : X) (ys : List X) → AllByRecursion P ys → slice_get ys k ≡ Some x → P x
  all_at P k x [] all at = absurd (cc)
  all_at P zero x (y ∷ ys) all at = let same : y ≡ x = cc in subst P same all.0
  all_at P (suc k) x (y ∷ ys) all at = all_at P k x ys all.1 at

  pub ascending_remove : (cmp : X → X → Ordering) (k : ℕ) (ys : List X) → Ascending cmp ys → Ascending cmp (remove ys k)
  ascending_remove cmp zero [] asc = tt
  ascending_remove cmp (suc k) [] asc = tt
  ascending_remove cmp zero (y ∷ ys) asc = asc.1
  ascending_remove cmp (suc k) (y ∷ ys) asc = (all_remove (λ z. cmp y z ≡ Less) k ys asc.0, ascending_remove cmp k ys asc.1)

  following : (cmp : X → X → Ordering) → IsTotalOrder cmp → (x y z : X) (o : Ordering) → cmp x y ≡ o → is_gt o ≡ false → cmp y z ≡ Less → cmp x z ≡ Less
  following cmp total x y z Less is not less = total.trans x y z is less
  following cmp total x y z Equal is not less = total.congr x y z is ∙ less
  following cmp total x y z Greater is not less = absurd (cc)

  all_after : (cmp : X → X → Ordering) → IsTotalOrder cmp → (x y : X) (ys : List X) → is_gt (cmp x y) ≡ false → AllByRecursion (λ z. cmp y z ≡ Less) ys → AllByRecursion (λ z. cmp x z ≡ Less) ys
  all_after cmp total x y [] not less = tt
  all_after cmp total x y (z ∷ ys) not less = (following cmp total x y z (cmp x y) refl not less.0, all_after cmp total x y ys not less.1)

  none_gt : (cmp : X → X → Ordering) (x : X) (ys : List X) → AllByRecursion (λ z. cmp x z ≡ Less) ys → AllByRecursion (λ z. is_gt (cmp x z) ≡ false) ys
  none_gt cmp x [] less = tt
  none_gt cmp x (y ∷ ys) less = (rw (less.0) refl, none_gt cmp x ys less.1)

  -- the test on what comes before fails on
  pub fails_on : (cmp : X → X → Ordering) → IsTotalOrder cmp → (x : X) (ys : List X) → Ascending cmp ys → FailsOn (λ y. is_gt (cmp x y)) ys
  fails_on cmp total x [] asc = tt
  fails_on cmp total x (y ∷ ys) asc = (λ not. none_gt cmp x ys (all_after cmp total x y ys not asc.0), fails_on cmp total x ys asc.1)

  put_by : (cmp : X → X → Ordering) → IsTotalOrder cmp → (o : Ordering) (k : ℕ) (x y : X) (ys : List X) → cmp x y ≡ o → is_tied o ≡ false → Ascending cmp (y ∷ ys) → Ascending cmp (insert ys k x) → Ascending cmp (insert (y ∷ ys) (cond (is_gt o) (1 + k) 0) x)
  put_by cmp total Less k x y ys is new asc put = ((is, all_after cmp total x y ys (rw is refl) asc.0), asc)
  put_by cmp total Equal k x y ys is new asc put = absurd (cc)
  put_by cmp total Greater k x y ys is new asc put =
      let less : cmp y x ≡ Less = total.antisymm y x ∙ ap ordering_reverse is in
      rw (one-add k) (all_insert (λ z. cmp y z ≡ Less) k x ys less asc.0, put)

  -- a new one in its place
  pub ascending_insert : (cmp : X → X → Ordering) → IsTotalOrder cmp → (x : X) (ys : List X) → AllByRecursion (λ y. is_tied (cmp x y) ≡ false) ys → Ascending cmp ys → Ascending cmp (insert ys (prefix_len (λ y. is_gt (cmp x y)) ys) x)
  ascending_insert cmp total x [] new asc = (tt, tt)
  ascending_insert cmp total x (y ∷ ys) new asc = put_by cmp total (cmp x y) (prefix_len (λ z. is_gt (cmp x z)) ys) x y ys refl new.0 asc (ascending_insert cmp total x ys new.1 asc.1)

  self_tied_by : (cmp : X → X → Ordering) → IsTotalOrder cmp → (x : X) (o : Ordering) → cmp x x ≡ o → o ≡ Equal
  self_tied_by cmp total x Less is = let turned : Less ≡ Greater = sym is ∙ total.antisymm x x ∙ ap ordering_reverse is in absurd (cc)
  self_tied_by cmp total x Equal is = refl
  self_tied_by cmp total x Greater is = let turned : Greater ≡ Less = sym is ∙ total.antisymm x x ∙ ap ordering_reverse is in absurd (cc)

  -- one ties with itself
  pub self_tied : (cmp : X → X → Ordering) → IsTotalOrder cmp → (x : X) → cmp x x ≡ Equal
  self_tied cmp total x = self_tied_by cmp total x (cmp x x) refl

  -- one of the list stands at its place
  pub stands_by : (cmp : X → X → Ordering) → IsTotalOrder cmp → (k : ℕ) (x : X) (ys : List X) → Ascending cmp ys → slice_get ys k ≡ Some x → prefix_len (λ y. is_gt (cmp x y)) ys ≡ k
  stands_by cmp total k x [] asc at = absurd (cc)
  stands_by cmp total zero x (y ∷ ys) asc at =
      let same : y ≡ x = cc in
      let tied : cmp x y ≡ Equal = ap (λ (z : X). cmp x z) same ∙ self_tied cmp total x in
      rw tied refl
  stands_by cmp total (suc k) x (y ∷ ys) asc at =
      let less = all_at (λ z. cmp y z ≡ Less) k x ys asc.0 at in
      let more : cmp x y ≡ Greater = total.antisymm x y ∙ ap ordering_reverse less in
      let following = stands_by cmp total k x ys asc.1 at in
      rw more (one-add (prefix_len (λ z. is_gt (cmp x z)) ys) ∙ ap (λ (n : ℕ). suc n) following)

-- Entries of lists.
pub has_new : (k x : ℕ) (ys : List ℕ) → Has (insert ys k x) x
has_new zero x ys = inl refl
has_new (suc k) x [] = inl refl
has_new (suc k) x (y ∷ ys) = inr (has_new k x ys)

pub has_old : (k x z : ℕ) (ys : List ℕ) → Has ys z → Has (insert ys k x) z
has_old zero x z ys has = inr has
has_old (suc k) x z [] has = absurd has
has_old (suc k) x z (y ∷ ys) (inl is) = inl is
has_old (suc k) x z (y ∷ ys) (inr has) = inr (has_old k x z ys has)

later : {A B C : Type 0} → A ⊎ B → A ⊎ (C ⊎ B)
later (inl a) = inl a
later (inr b) = inr (inr b)

pub has_cases : (k x z : ℕ) (ys : List ℕ) → Has (insert ys k x) z → (x ≡ z) ⊎ Has ys z
has_cases zero x z ys has = has
has_cases (suc k) x z [] has = has
has_cases (suc k) x z (y ∷ ys) (inl is) = inr (inl is)
has_cases (suc k) x z (y ∷ ys) (inr has) = later (has_cases k x z ys has)

pub has_fewer : (k z : ℕ) (ys : List ℕ) → Has (remove ys k) z → Has ys z
has_fewer zero z [] has = has
has_fewer (suc k) z [] has = has
has_fewer zero z (y ∷ ys) has = inr has
has_fewer (suc k) z (y ∷ ys) (inl is) = inl is
has_fewer (suc k) z (y ∷ ys) (inr has) = inr (has_fewer k z ys has)

pub has_other : (k x z : ℕ) (ys : List ℕ) → slice_get ys k ≡ Some x → (x ≡ z → ⊥) → Has ys z → Has (remove ys k) z
has_other k x z [] at not has = absurd (cc)
has_other zero x z (y ∷ ys) at not (inl is) = absurd (not (cc))
has_other zero x z (y ∷ ys) at not (inr has) = has
has_other (suc k) x z (y ∷ ys) at not (inl is) = inl is
has_other (suc k) x z (y ∷ ys) at not (inr has) = inr (has_other k x z ys at not has)

pub has_all : (P : ℕ → Type 0) (z : ℕ) (ys : List ℕ) → AllByRecursion P ys → Has ys z → P z
has_all P z [] all has = absurd has
has_all P z (y ∷ ys) all (inl is) = subst P is all.0
has_all P z (y ∷ ys) all (inr has) = has_all P z ys all.1 has

pub all_has : (P : ℕ → Type 0) (ys : List ℕ) → ((z : ℕ) → Has ys z → P z) → AllByRecursion P ys
all_has P [] each = tt
all_has P (y ∷ ys) each = (each y (inl refl), all_has P ys (λ z has. each z (inr has)))

pub has_place : (z : ℕ) (ys : List ℕ) → Has ys z → (k : ℕ) × (slice_get ys k ≡ Some z)
has_place z [] has = absurd has
has_place z (y ∷ ys) (inl is) = (0, ap (λ (n : ℕ). Some n) is)
has_place z (y ∷ ys) (inr has) = let place = has_place z ys has in (suc place.0, place.1)

pub has_at : (k z : ℕ) (ys : List ℕ) → slice_get ys k ≡ Some z → Has ys z
has_at k z [] at = absurd (cc)
has_at zero z (y ∷ ys) at = let same : y ≡ z = cc in inl same
has_at (suc k) z (y ∷ ys) at = inr (has_at k z ys at)

-- Maps of lists.
module _ {X : Type 0} where
  pub map_same : (f g : ℕ → X) (hs : List ℕ) → AllByRecursion (λ h. f h ≡ g h) hs → map f hs ≡ map g hs
  map_same f g [] same = refl
  map_same f g (h ∷ hs) same = let here : f h ≡ g h = same.0 in let others = map_same f g hs same.1 in cc

  all_map : (f : ℕ → X) (test : X → Bool) (hs : List ℕ) → AllByRecursion (λ x. test x ≡ false) (map f hs) → AllByRecursion (λ h. test (f h) ≡ false) hs
  all_map f test [] all = tt
  all_map f test (h ∷ hs) all = (all.0, all_map f test hs all.1)

  pub fails_map : (f : ℕ → X) (test : X → Bool) (hs : List ℕ) → FailsOn test (map f hs) → FailsOn (λ h. test (f h)) hs
  fails_map f test [] fails = tt
  fails_map f test (h ∷ hs) fails = (λ not. all_map f test hs (fails.0 not), fails_map f test hs fails.1)

  pub prefix_map : (f : ℕ → X) (test : X → Bool) (hs : List ℕ) → prefix_len (λ h. test (f h)) hs ≡ prefix_len test (map f hs)
  prefix_map f test [] = refl
  prefix_map f test (h ∷ hs) = let others = prefix_map f test hs in rw others refl

  first_map : (f : ℕ → X) (test : X → Bool) (page : List ℕ) → first_passes (λ h. test (f h)) page ≡ first_passes test (map f page)
  first_map f test [] = refl
  first_map f test (h ∷ page) = refl

  starts_map : (f : ℕ → X) (test : X → Bool) (pages : List (List ℕ)) → prefix_len (first_passes (λ h. test (f h))) pages ≡ prefix_len (first_passes test) (map (map f) pages)
  starts_map f test [] = refl
  starts_map f test (page ∷ pages) = let others = starts_map f test pages in rw (first_map f test page, others) refl

  pub last_map : (f : ℕ → X) (test : X → Bool) (pages : List (List ℕ)) → last_page (λ h. test (f h)) pages ≡ last_page test (map (map f) pages)
  last_map f test pages = ap (λ (n : ℕ). n - 1) (starts_map f test pages)
