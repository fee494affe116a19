-- The lines of a script that are left.
use Rattle.std.proofs.Common.{◌≡◌, ℕ, zero, suc, ◌+◌, ◌<◌, List, [], ◌∷◌, length, drop, arith}

-- one is left only within the script
pub stands : {A : Type 0} → (place : ℕ) (script : List A) (line : A) (lines : List A) → drop place script ≡ line ∷ lines → place < length script
stands zero [] line lines is = absurd (cc)
stands (suc place) [] line lines is = absurd (cc)
stands zero (first ∷ script) line lines is = omega arith
stands (suc place) (first ∷ script) line lines is = let rest : place < length script = stands place script line lines is in omega (arith, rest)

-- behind it the others are left
pub next_left : {A : Type 0} → (place : ℕ) (script : List A) (line : A) (lines : List A) → drop place script ≡ line ∷ lines → drop (place + 1) script ≡ lines
next_left zero [] line lines is = absurd (cc)
next_left (suc place) [] line lines is = absurd (cc)
next_left zero (first ∷ script) line lines is = cc
next_left (suc place) (first ∷ script) line lines is = let next : suc place + 1 ≡ suc (place + 1) = omega arith in rw next (next_left place script line lines is)
