-- Facts on lists and their items.
use Rattle.std.proofs.Common.{◌≡◌, ℕ, suc, ◌-◌, List, [], ◌∷◌, length, map, Some, sym, ap, ◌∙◌, arith}
use Rattle.std.specs.List.{slice_get}

-- the last item is at the last place
last_place : (n : ℕ) → suc (suc n) - 1 ≡ suc (suc n - 1)
last_place n = omega arith

pub last_found : {X Y : Type 0} (step : Y → List Y → Y) → ((y : Y) → step y [] ≡ y) → ((y next : Y) (more : List Y) → step y (next ∷ more) ≡ step next more) → (f : X → Y) (y : Y) (items : List X) (last : X) → Some last ≡ slice_get items (length items - 1)
    → step y (map f items) ≡ f last
last_found step none more f y [] last is = absurd (cc)
last_found step none more f y (item ∷ []) last is = let same : last ≡ item = cc in more y (f item) [] ∙ none (f item) ∙ ap f (sym same)
last_found step none more f y (item ∷ (next ∷ items)) last is =
    let there : Some last ≡ slice_get (next ∷ items) (length (next ∷ items) - 1) = is ∙ ap (slice_get (item ∷ (next ∷ items))) (last_place (length items)) in
    more y (f item) (f next ∷ map f items) ∙ last_found step none more f (f item) (next ∷ items) last there
