-- Tests that fail from some entry on, and the place where they begin to.
use Rattle.std.proofs.Common.{◌≡◌, ℕ, zero, suc, ◌+◌, ◌<◌, ◌≤◌, ◌-◌, Some, Bool, true, false, cond, List, [], ◌∷◌, ◌++◌, length, get_or, refl, arith}
use Rattle.std.specs.List.{AllByRecursion, prefix_len, slice_get}
use Rattle.std.proofs.lemmas.Option.{get_or_from_slice_get}
use Rattle.std.specs.List.Sorted.{IsPartitionedBy, IsPartitionPoint}
use Rattle.base_page_list.specs.Pages.{FailsOn}

stopped : (b : Bool) (k n : ℕ) → k ≡ n → ◌≡◌ {A = ℕ} (cond b (1 + k) 0) (cond b (1 + n) 0)
stopped b k n is = rw is refl

module _ {X : Type 0} where
  fails_at : (test : X → Bool) (xs : List X) (j : ℕ) (d : X) → AllByRecursion (λ other. test other ≡ false) xs → j < length xs → test (get_or xs j d) ≡ false
  fails_at test [] j d fail lt = absurd (omega arith)
  fails_at test (x ∷ xs) zero d fail lt = fail.0
  fails_at test (x ∷ xs) (suc j) d fail lt = fails_at test xs j d fail.1 (omega arith)

  passes_first : (test : X → Bool) (x : X) (xs : List X) (j : ℕ) (d : X) (b : Bool) → test x ≡ b → (test x ≡ false → AllByRecursion (λ other. test other ≡ false) xs) → j < length xs → test (get_or xs j d) ≡ true → test x ≡ true
  passes_first test x xs j d true is fails lt passes = is
  passes_first test x xs j d false is fails lt passes = let not_so : test (get_or xs j d) ≡ false = fails_at test xs j d (fails is) lt in absurd (cc)

  pub partitioned : (test : X → Bool) (xs : List X) → FailsOn test xs → IsPartitionedBy test xs
  partitioned test [] fails i j d le lt passes = absurd (omega arith)
  partitioned test (x ∷ xs) fails zero zero d le lt passes = passes
  partitioned test (x ∷ xs) fails zero (suc j) d le lt passes = passes_first test x xs j d (test x) refl fails.0 (omega arith) passes
  partitioned test (x ∷ xs) fails (suc i) zero d le lt passes = absurd (omega arith)
  partitioned test (x ∷ xs) fails (suc i) (suc j) d le lt passes = partitioned test xs fails.1 i j d (omega arith) (omega arith) passes

  -- a place before which the test passes, and from which on it fails, is the number of entries that pass
  pub point_is : (test : X → Bool) (xs : List X) (n : ℕ) → n ≤ length xs → IsPartitionPoint (λ y. test y ≡ true) (λ y. test y ≡ false) xs n → n ≡ prefix_len test xs
  point_is test [] n le parts = omega arith
  point_is test (x ∷ xs) zero le parts = let fails : test x ≡ false = parts.1 0 x (omega arith) (omega arith) in rw fails refl
  point_is test (x ∷ xs) (suc n) le parts =
      let passes : test x ≡ true = parts.0 0 x (omega arith) (omega arith) in
      let others : n ≡ prefix_len test xs = point_is test xs n (omega arith) (λ k d low high. parts.0 (suc k) d (omega arith) (omega arith), λ k d low high. parts.1 (suc k) d (omega arith) (omega arith)) in
      rw passes (omega (arith, others))

  -- where the last one passes, all do
  pub all_pass : (test : X → Bool) (xs : List X) (last : X) → FailsOn test xs → slice_get xs (length xs - 1) ≡ Some last → test last ≡ true → length xs ≡ prefix_len test xs
  all_pass test [] last fails at passes = refl
  all_pass test (x ∷ xs) last fails at passes =
      let before : length (x ∷ xs) - 1 ≡ length xs = omega arith in
      let there : slice_get (x ∷ xs) (length xs) ≡ Some last = rw (← before) at in
      point_is test (x ∷ xs) (suc (length xs)) (omega arith)
      (λ k d low high. partitioned test (x ∷ xs) fails k (length xs) d (omega (arith, high)) (omega arith) (rw (get_or_from_slice_get (x ∷ xs) (length xs) last d there) passes), λ k d low high. absurd (omega (arith, low, high)))

  pub all_left : (P : X → Type 0) (xs ys : List X) → AllByRecursion P (xs ++ ys) → AllByRecursion P xs
  all_left P [] ys all = tt
  all_left P (x ∷ xs) ys all = (all.0, all_left P xs ys all.1)

  pub all_right : (P : X → Type 0) (xs ys : List X) → AllByRecursion P (xs ++ ys) → AllByRecursion P ys
  all_right P [] ys all = all
  all_right P (x ∷ xs) ys all = all_right P xs ys all.1

  pub fails_left : (test : X → Bool) (xs ys : List X) → FailsOn test (xs ++ ys) → FailsOn test xs
  fails_left test [] ys fails = tt
  fails_left test (x ∷ xs) ys fails = (λ is. all_left (λ other. test other ≡ false) xs ys (fails.0 is), fails_left test xs ys fails.1)

  pub fails_right : (test : X → Bool) (xs ys : List X) → FailsOn test (xs ++ ys) → FailsOn test ys
  fails_right test [] ys fails = fails
  fails_right test (x ∷ xs) ys fails = fails_right test xs ys fails.1

  pub none_before : (test : X → Bool) (xs : List X) → AllByRecursion (λ other. test other ≡ false) xs → prefix_len test xs ≡ 0
  none_before test [] fail = refl
  none_before test (x ∷ xs) fail = rw fail.0 refl

  pub before_stop : (test : X → Bool) (xs ys : List X) → prefix_len test ys ≡ 0 → prefix_len test (xs ++ ys) ≡ prefix_len test xs
  before_stop test [] ys none = none
  before_stop test (x ∷ xs) ys none = stopped (test x) _ _ (before_stop test xs ys none)

  passed : (test : X → Bool) (b : Bool) (x y : X) (xs ys : List X) → test x ≡ b → (test x ≡ false → AllByRecursion (λ other. test other ≡ false) (xs ++ y ∷ ys)) → test y ≡ true → test x ≡ true
  passed test true x y xs ys is fails passes = is
  passed test false x y xs ys is fails passes = let not_so = all_right (λ (other : X). test other ≡ false) xs (y ∷ ys) (fails is) in absurd (cc (not_so.0))

  pub before_all : (test : X → Bool) (y : X) (xs ys : List X) → FailsOn test (xs ++ y ∷ ys) → test y ≡ true → prefix_len test (xs ++ y ∷ ys) ≡ length xs + prefix_len test (y ∷ ys)
  before_all test y [] ys fails passes = omega arith
  before_all test y (x ∷ xs) ys fails passes =
      let here = passed test (test x) x y xs ys refl fails.0 passes in
      let others = before_all test y xs ys fails.1 passes in
      rw here (omega (arith, others))
