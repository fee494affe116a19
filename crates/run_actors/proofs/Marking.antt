-- What all items that are left hold, the first of them holds.
use Rattle.std.proofs.Common.{◌≡◌, ℕ, zero, suc, List, [], ◌∷◌, drop, Some, subst}
use Rattle.std.specs.List.{AllByRecursion, slice_get}

-- the item at the place holds what all that are left hold
pub holds_at : {X : Type 0} (P : X → Type 0) (xs : List X) (i : ℕ) (x : X) → slice_get xs i ≡ Some x → AllByRecursion P (drop i xs) → P x
holds_at P [] i x at all = absurd (cc)
holds_at P (y ∷ xs) zero x at all = let same : y ≡ x = cc in subst P same all.0
holds_at P (y ∷ xs) (suc i) x at all = holds_at P xs i x at all
