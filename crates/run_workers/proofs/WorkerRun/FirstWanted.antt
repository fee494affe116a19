-- The first of a list, from a place on, that is wanted.
use Rattle.std.proofs.Common.{◌≡◌, ◌≤◌, ℕ, zero, suc, ◌+◌, Bool, true, false, List, [], ◌∷◌, drop, length, Some, None, refl, sym, ◌∙◌, arith}
use Rattle.std.specs.List.{slice_get, find}

from_here : {A : Type 0} (test : A → Bool) (xs : List A) (i : ℕ) (x : A) → slice_get xs i ≡ Some x → find test (drop i xs) ≡ find test (x ∷ drop (i + 1) xs)
from_here test [] zero x is = absurd (cc)
from_here test [] (suc i) x is = absurd (cc)
from_here test (first ∷ xs) zero x is = let same : first ≡ x = cc in rw same refl
from_here test (first ∷ xs) (suc i) x is = let next : suc i + 1 ≡ suc (i + 1) = omega arith in rw next (from_here test xs i x is)

-- it is here
pub found_here : {A : Type 0} (test : A → Bool) (xs : List A) (i : ℕ) (x : A) → slice_get xs i ≡ Some x → test x ≡ true → find test (drop i xs) ≡ Some x
found_here test xs i x is so = from_here test xs i x is ∙ rw so refl

-- it isn't
pub found_later : {A : Type 0} (test : A → Bool) (xs : List A) (i : ℕ) (x : A) → slice_get xs i ≡ Some x → test x ≡ false → find test (drop (i + 1) xs) ≡ find test (drop i xs)
found_later test xs i x is none = sym (from_here test xs i x is ∙ rw none refl)

-- nobody is left
pub found_none : {A : Type 0} (test : A → Bool) (xs : List A) (i : ℕ) → length xs ≤ i → find test (drop i xs) ≡ None
found_none test [] zero past = refl
found_none test [] (suc i) past = refl
found_none test (first ∷ xs) zero past = absurd (omega (arith, past))
found_none test (first ∷ xs) (suc i) past = found_none test xs i (omega (arith, past))

-- the items behind a drop
pub get_after : {A : Type 0} (xs : List A) (from i : ℕ) → slice_get (drop from xs) i ≡ slice_get xs (from + i)
get_after xs zero i = let same : i ≡ zero + i = omega arith in rw (sym same) refl
get_after [] (suc from) i = refl
get_after (first ∷ xs) (suc from) i = let next : suc from + i ≡ suc (from + i) = omega arith in rw next (get_after xs from i)
