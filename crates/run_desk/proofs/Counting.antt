-- Counting hands over all views.
use Rattle.std.proofs.Common.{◌≡◌, ◌≢◌, ℕ, zero, suc, ◌+◌, ◌≤◌, List, [], ◌∷◌, ◌++◌, set, refl, sym, ap, ◌∙◌, subst, ⊎_elim, arith}
use Rattle.std.specs.Prelude.{All}
use Rattle.std.proofs.lemmas.List.Sums.{sum_by-cons, sum_by-append, sum_by_push, sum_by-le-sum_by, get_or-le-sum_by}
use Rattle.std.proofs.lemmas.List.Elements.{All-head, All-tail}
use mathlib.Core.Option.{some, some-ne-none, some-injective}
use lib.ListN.{get_elem?}
use Rattle.atomic_table.proofs.Lists.{at_set, at_snoc, set_else}
use Rattle.run_desk.specs.declared.hand.Role.{Role}
use Rattle.run_desk.specs.declared.hand.Hand.{Hand}
use Rattle.run_desk.specs.Rule.{count, count_in}

module _ {A : Type 0} where
  -- what is said of each element, after one of them is replaced
  pub each_set : (P : A → Type 0) (xs : List A) (i : ℕ) (x : A) → ((j : ℕ) (y : A) → j ≢ i → get_elem? xs j ≡ some y → P y) → P x → (j : ℕ) (y : A) → get_elem? (set xs i x) j ≡ some y → P y
  each_set P xs i x each here j y e = ⊎_elim (λ (t : (j ≡ i) × (x ≡ y)). subst P t.1 here) (λ (t : (j ≢ i) × (get_elem? xs j ≡ some y)). each j y t.0 t.1) (at_set xs i j x y e)

  -- the same after one more
  pub each_snoc : (P : A → Type 0) (xs : List A) (x : A) → ((j : ℕ) (y : A) → get_elem? xs j ≡ some y → P y) → P x → (j : ℕ) (y : A) → get_elem? (xs ++ x ∷ []) j ≡ some y → P y
  each_snoc P xs x each here j y e = ⊎_elim (λ was. each j y was) (λ (same : x ≡ y). subst P same here) (at_snoc xs x y j e)

module _ {O E : Type 0} where
  pub count_set : (f : Role E → ℕ) (views : List (List (Hand O E))) (i : ℕ) (v w : List (Hand O E)) → get_elem? views i ≡ some v → count f (set views i w) + count_in f v ≡ count f views + count_in f w
  count_set f [] i v w at = absurd (some-ne-none v (sym at))
  count_set f (x ∷ xs) zero v w at =
      let same : count_in f x ≡ count_in f v = ap (count_in f) (some-injective x v at) in
      omega (arith, sum_by-cons (count_in f) w xs, sum_by-cons (count_in f) x xs)
  count_set f (x ∷ xs) (suc i) v w at =
      let rest = count_set f xs i v w at in
      omega (arith, sum_by-cons (count_in f) x (set xs i w), sum_by-cons (count_in f) x xs)

  pub count_snoc : (f : Role E → ℕ) (views : List (List (Hand O E))) (w : List (Hand O E)) → count f (views ++ w ∷ []) ≡ count f views + count_in f w
  count_snoc f views w = sum_by_push (count_in f) views w

  pub count_at : (f : Role E → ℕ) (views : List (List (Hand O E))) (i : ℕ) (v : List (Hand O E)) → get_elem? views i ≡ some v → count_in f v ≤ count f views
  count_at f views i v at = let gone = count_set f views i v [] at in omega arith

  -- where one view has the only one, another has none
  pub count_else : (f : Role E → ℕ) (views : List (List (Hand O E))) (i : ℕ) (v : List (Hand O E)) → get_elem? views i ≡ some v → count f views ≤ count_in f v → (j : ℕ) (u : List (Hand O E)) → j ≢ i → get_elem? views j ≡ some u → count_in f u ≡ 0
  count_else f views i v at only j u apart there =
      let gone = count_set f views i v [] at in
      let here = count_at f (set views i []) j u (set_else views i j [] apart ∙ there) in
      omega arith

  pub count_in_append : (f : Role E → ℕ) (v w : List (Hand O E)) → count_in f (v ++ w) ≡ count_in f v + count_in f w
  count_in_append f v w = sum_by-append (λ h. f h.role) v w

  -- none is counted exactly where each hand counts as 0
  pub each_zero : (f : Role E → ℕ) (v : List (Hand O E)) → count_in f v ≡ 0 → All (λ h. f h.role ≡ 0) v
  each_zero f v none k d inside = let le = get_or-le-sum_by (λ (h : Hand O E). f h.role) v k d inside in omega arith

  pub none_in : (f : Role E → ℕ) (v : List (Hand O E)) → All (λ h. f h.role ≡ 0) v → count_in f v ≡ 0
  none_in f [] each = refl
  none_in f (x ∷ xs) each =
      let here = All-head (λ (h : Hand O E). f h.role ≡ 0) x xs each in
      let rest = none_in f xs (All-tail (λ (h : Hand O E). f h.role ≡ 0) x xs each) in
      omega (arith, sum_by-cons (λ (h : Hand O E). f h.role) x xs)

  pub none : (f : Role E → ℕ) (views : List (List (Hand O E))) → ((j : ℕ) (u : List (Hand O E)) → get_elem? views j ≡ some u → All (λ h. f h.role ≡ 0) u) → count f views ≡ 0
  none f [] each = refl
  none f (x ∷ xs) each =
      let here = none_in f x (each 0 x refl) in
      let rest = none f xs (λ j u at. each (suc j) u at) in
      omega (arith, sum_by-cons (count_in f) x xs)

  pub count_less : (f g : Role E → ℕ) → ((r : Role E) → f r ≤ g r) → (views : List (List (Hand O E))) → count f views ≤ count g views
  count_less f g less views = sum_by-le-sum_by (count_in f) (count_in g) views (λ v. sum_by-le-sum_by (λ (h : Hand O E). f h.role) (λ h. g h.role) v (λ h. less h.role))
