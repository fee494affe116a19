-- A loop that changes each element of a list in turn.
use Rattle.std.proofs.Common.{◌≡◌, ◌∙◌, ℕ, zero, suc, ◌+◌, ◌<◌, ◌≤◌, List, [], ◌∷◌, length, take, drop, set, get_or, refl, sym, subst, arith, add-one}
use Rattle.std.specs.List.{AllZip}
use Rattle.std.proofs.lemmas.List.{length-set, take_all}

-- so many elements are changed, and the others are as they were
pub record IsHalfDone {X : Type 0} (R : X → X → Type 0) (n : ℕ) (old now : List X) : Type 0 where
  pub changed : AllZip R (take n old) (take n now)
  pub others : drop n now ≡ drop n old
  pub size : length now ≡ length old

module _ {X : Type 0} where
  changed_more : (R : X → X → Type 0) (n : ℕ) (old now : List X) (x d : X) → n < length old → length now ≡ length old → R (get_or old n d) x → AllZip R (take n old) (take n now) → AllZip R (take (suc n) old) (take (suc n) (set now n x))
  changed_more R n [] now x d lt size more zip = absurd (omega arith)
  changed_more R n (o ∷ old) [] x d lt size more zip = absurd (omega arith)
  changed_more R zero (o ∷ old) (y ∷ now) x d lt size more zip = (more, tt)
  changed_more R (suc n) (o ∷ old) (y ∷ now) x d lt size more zip = (zip.0, changed_more R n old now x d (omega arith) (omega arith) more zip.1)

  others_more : (n : ℕ) (old now : List X) (x : X) → drop n now ≡ drop n old → length now ≡ length old → drop (suc n) (set now n x) ≡ drop (suc n) old
  others_more n [] [] x same size = refl
  others_more n [] (y ∷ now) x same size = absurd (omega arith)
  others_more n (o ∷ old) [] x same size = absurd (omega arith)
  others_more zero (o ∷ old) (y ∷ now) x same size = cc
  others_more (suc n) (o ∷ old) (y ∷ now) x same size = others_more n old now x same (omega arith)

  next_by : (n : ℕ) (old now : List X) (d : X) → drop n now ≡ drop n old → length now ≡ length old → n < length old → get_or now n d ≡ get_or old n d
  next_by n [] now d same size lt = absurd (omega arith)
  next_by n (o ∷ old) [] d same size lt = absurd (omega arith)
  next_by zero (o ∷ old) (y ∷ now) d same size lt = cc
  next_by (suc n) (o ∷ old) (y ∷ now) d same size lt = next_by n old now d same (omega arith) (omega arith)

  -- the next element is still the old one
  pub next_is : (R : X → X → Type 0) (n : ℕ) (old now : List X) (d : X) → IsHalfDone R n old now → n < length old → get_or now n d ≡ get_or old n d
  next_is R n old now d half lt = next_by n old now d half.others half.size lt

  pub more_done : (R : X → X → Type 0) (n : ℕ) (old now : List X) (x y : X) → IsHalfDone R n old now → n < length old → y ≡ get_or now n y → R y x → IsHalfDone R (n + 1) old (set now n x)
  more_done R n old now x y half lt read done =
      let from : R (get_or old n y) x = subst (λ (z : X). R z x) (read ∙ next_is R n old now y half lt) done in
      rw (add-one n)
      record {
        changed = changed_more R n old now x y lt half.size from half.changed;
        others = others_more n old now x half.others half.size;
        size = length-set now n x ∙ half.size;
      }

  pub all_done : (R : X → X → Type 0) (n : ℕ) (old now : List X) → IsHalfDone R n old now → length old ≤ n → AllZip R old now
  all_done R n old now half le = rw (take_all n old le, take_all n now (omega (arith, half.size, le))) at half.changed

  -- The rest is as it was.
  rest_by : (R : X → X → Type 0) → ((x : X) → R x x) → (xs : List X) → AllZip R xs xs
  rest_by R refl_by [] = tt
  rest_by R refl_by (x ∷ xs) = (refl_by x, rest_by R refl_by xs)

  half_by : (R : X → X → Type 0) → ((x : X) → R x x) → (n : ℕ) (old now : List X) → AllZip R (take n old) (take n now) → drop n now ≡ drop n old → length now ≡ length old → AllZip R old now
  half_by R refl_by zero old now zip same size = subst (λ (xs : List X). AllZip R old xs) (sym same) (rest_by R refl_by old)
  half_by R refl_by (suc n) [] [] zip same size = tt
  half_by R refl_by (suc n) [] (y ∷ now) zip same size = absurd (omega (arith, size))
  half_by R refl_by (suc n) (o ∷ old) [] zip same size = absurd (omega (arith, size))
  half_by R refl_by (suc n) (o ∷ old) (y ∷ now) zip same size = (zip.0, half_by R refl_by n old now zip.1 same (omega (arith, size)))

  -- where the loop stops behind an element
  pub stopped : (R : X → X → Type 0) → ((x : X) → R x x) → (n : ℕ) (old now : List X) (x y : X) → IsHalfDone R n old now → n < length old → y ≡ get_or now n y → R y x → AllZip R old (set now n x)
  stopped R refl_by n old now x y half lt read done =
      let more = more_done R n old now x y half lt read done in
      half_by R refl_by (n + 1) old (set now n x) more.changed more.others more.size

  pub weaker_by : (R S : X → X → Type 0) → ((x y : X) → R x y → S x y) → (xs ys : List X) → AllZip R xs ys → AllZip S xs ys
  weaker_by R S than [] [] zip = tt
  weaker_by R S than [] (y ∷ ys) zip = absurd zip
  weaker_by R S than (x ∷ xs) [] zip = absurd zip
  weaker_by R S than (x ∷ xs) (y ∷ ys) zip = (than x y zip.0, weaker_by R S than xs ys zip.1)

  pub weaker : (R S : X → X → Type 0) → ((x y : X) → R x y → S x y) → (n : ℕ) (old now : List X) → IsHalfDone R n old now → IsHalfDone S n old now
  weaker R S than n old now half = record { changed = weaker_by R S than (take n old) (take n now) half.changed; others = half.others; size = half.size }
