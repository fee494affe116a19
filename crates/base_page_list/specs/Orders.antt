-- Lists in order, and the entries that they have.
use Rattle.std.specs.Prelude.{◌≡◌, ◌⊎◌, ℕ, Bool, true, false, List, [], ◌∷◌}
use Rattle.std.specs.List.{AllByRecursion}
use Rattle.std.specs.declared.cmp.Ordering.{Ordering}
use Rattle.std.specs.declared.cmp.Ordering.TheVariants.{Less, Equal, Greater}

-- each comes before all after it
abbrev pub Ascending : {X : Type 0} → (X → X → Ordering) → List X → Type 0
Ascending cmp [] = Unit {0}
Ascending cmp (x ∷ xs) = AllByRecursion (λ y. cmp x y ≡ Less) xs × Ascending cmp xs

-- the entry is one of these
abbrev pub Has : List ℕ → ℕ → Type 0
Has [] x = ⊥
Has (y ∷ ys) x = (y ≡ x) ⊎ Has ys x

-- two tie
abbrev pub is_tied : Ordering → Bool
is_tied Less = false
is_tied Equal = true
is_tied Greater = false
