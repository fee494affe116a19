-- A text against two texts one behind the other.
use Rattle.std.proofs.Common.{◌≡◌, ℕ, List, [], ◌∷◌, ◌++◌, length, take, drop, ◌&&◌, nat_eq, arith}
use Rattle.std.specs.Cmp.Lexicographic.{pointwise}

-- the text is the two exactly where its prefix is the first and the rest is the second
pub prefix : (xs first second : List ℕ) → pointwise nat_eq xs (first ++ second) ≡ (pointwise nat_eq (take (length first) xs) first && pointwise nat_eq (drop (length first) xs) second)
prefix xs [] second = grind arith
prefix [] (a ∷ first) second = grind arith
prefix (x ∷ xs) (a ∷ first) second = grind (arith, prefix xs first second)
