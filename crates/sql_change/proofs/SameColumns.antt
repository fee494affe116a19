-- Comparing the columns of two keys one after the other, as a loop does.
use Rattle.std.proofs.Common.{◌≡◌, ◌≢◌, ℕ, suc, ◌+◌, ◌<◌, ◌≤◌, Bool, true, false, List, [], ◌∷◌, length, drop, get_or, Option, refl, sym, ap, ◌∙◌}
use Rattle.std.specs.List.{slice_get}
use Rattle.std.proofs.Math.Bool.{and-false}
use Rattle.std.proofs.lemmas.List.{drop_more, drop_all}
use Rattle.sql_change.specs.AlteredSchema.{is_origin, same_columns}

-- keys of different lengths have different columns
pub lengths_differ : (origins : List (Option ℕ)) (places old : List ℕ) → length places ≢ length old → same_columns origins places old ≡ false
unfolding same_columns
lengths_differ origins [] [] ne = absurd (ne refl)
lengths_differ origins [] (b ∷ old) ne = refl
lengths_differ origins (p ∷ places) [] ne = refl
lengths_differ origins (p ∷ places) (b ∷ old) ne = rw (lengths_differ origins places old (λ e. ne (ap suc e))) (and-false (is_origin (slice_get origins p) b))

module _ (origins : List (Option ℕ)) (places old : List ℕ) (i : ℕ) (total : Bool) where
  pub goes_on : i < length places → i < length old → is_origin (slice_get origins (get_or places i 0)) (get_or old i 0) ≡ true → same_columns origins (drop i places) (drop i old) ≡ total → same_columns origins (drop (i + 1) places) (drop (i + 1) old) ≡ total
  unfolding same_columns
  goes_on lt within is so_far =
      let one : same_columns origins (drop i places) (drop i old) ≡ same_columns origins (drop (i + 1) places) (drop (i + 1) old) = rw (drop_more places i 0 lt, drop_more old i 0 within, is) refl in
      sym one ∙ so_far

  pub differs : i < length places → i < length old → is_origin (slice_get origins (get_or places i 0)) (get_or old i 0) ≡ false → same_columns origins (drop i places) (drop i old) ≡ total → total ≡ false
  unfolding same_columns
  differs lt within isnt so_far =
      let one : same_columns origins (drop i places) (drop i old) ≡ false = rw (drop_more places i 0 lt, drop_more old i 0 within, isnt) refl in
      sym so_far ∙ one

  pub all_same : length places ≤ i → length old ≤ i → same_columns origins (drop i places) (drop i old) ≡ total → total ≡ true
  unfolding same_columns
  all_same le within so_far =
      let one : same_columns origins (drop i places) (drop i old) ≡ true = rw (drop_all i places le, drop_all i old within) refl in
      sym so_far ∙ one
