-- Looking for a free name one number after the other, as a loop does.
use Rattle.std.proofs.Common.{◌≡◌, ℕ, suc, ◌-◌, ◌+◌, ◌≤◌, ◌<◌, true, false, List, refl, arith}
use Rattle.base_values.specs.SchemaRules.Names.{is_among, numbered, first_free}

module _ (taken : List (List ℕ)) (base : List ℕ) (most i number : ℕ) where
  pub is_free : i < most → is_among taken (numbered base number) ≡ false → first_free taken base (most - i) number ≡ numbered base number
  unfolding first_free
  is_free lt free = let k : most - i ≡ suc (most - (i + 1)) = omega arith in rw (k, free) refl

  pub is_taken : i < most → is_among taken (numbered base number) ≡ true → first_free taken base (most - i) number ≡ first_free taken base (most - (i + 1)) (number + 1)
  unfolding first_free
  is_taken lt among = let k : most - i ≡ suc (most - (i + 1)) = omega arith in rw (k, among) refl

  pub is_last : most ≤ i → first_free taken base (most - i) number ≡ numbered base number
  unfolding first_free
  is_last le = let k : most - i ≡ 0 = omega arith in rw k refl
