-- Tests of numbers and of bytes, and what both or either of two of them say.
use Rattle.std.proofs.Common.{◌≡◌, ℕ, Bool, true, false, ◌||◌, List, refl, sym, ap, ◌∙◌, arith}
use Rattle.std.specs.Prelude.{◌==◌}
use Rattle.std.specs.Str.{bytes_eq}
use Rattle.std.proofs.lemmas.Slice.Eq.{bytes_eq-Decides}
use Rattle.std.proofs.lemmas.Bool.{true≢false}
use Rattle.std.proofs.lemmas.Bool.Decides.{nat_tests}

pub same_number : (n : ℕ) → (n == n) ≡ true
same_number n = grind (arith, nat_tests)

pub are_one : (a b : ℕ) → (a == b) ≡ true → a ≡ b
are_one a b is = grind (arith, nat_tests)

pub turned : (a b : ℕ) → (a == b) ≡ false → (b == a) ≡ false
turned a b is = grind (arith, nat_tests)

pub same_bytes : (a : List ℕ) → bytes_eq a a ≡ true
same_bytes a = (bytes_eq-Decides a a).1 refl

pub are_same : (a b : List ℕ) → bytes_eq a b ≡ true → a ≡ b
are_same a b is = (bytes_eq-Decides a b).0 is

pub turned_bytes : (a b : List ℕ) → bytes_eq a b ≡ false → bytes_eq b a ≡ false
turned_bytes a b is = at (bytes_eq b a) refl where
  at : (c : Bool) → bytes_eq b a ≡ c → c ≡ false
  at true back = let same : b ≡ a = are_same b a back in absurd (true≢false (sym (same_bytes a) ∙ ap (bytes_eq a) (sym same) ∙ is))
  at false back = refl

pub or_swapped : (a b c : Bool) → (a || (b || c)) ≡ (b || (a || c))
or_swapped true true c = refl
or_swapped true false c = refl
or_swapped false b c = refl

pub nor_left : (a b : Bool) → (a || b) ≡ false → a ≡ false
nor_left true b is = absurd (true≢false is)
nor_left false b is = refl

pub nor_right : (a b : Bool) → (a || b) ≡ false → b ≡ false
nor_right true b is = absurd (true≢false is)
nor_right false b is = is
