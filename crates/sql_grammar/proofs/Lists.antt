-- Reading items with commas between them one after the other, as a loop does.
use Rattle.std.proofs.Common.{◌≡◌, ℕ, suc, ◌-◌, ◌+◌, ◌≤◌, ◌<◌, List, [], ◌∷◌, ◌++◌, Some, None, Result, Ok, Err, refl, sym, ap, ◌∙◌, append_assoc, arith, codes}
use Rattle.base_values.specs.declared.fault.Fault.{Fault}
use Rattle.base_values.specs.declared.fault.Fault.TheVariants as faults
use Rattle.sql_grammar.specs.declared.token.Token.{Token}
use Rattle.sql_grammar.specs.Listed.{listed}
use Rattle.sql_grammar.specs.Pieces.{after_sign}
use Rattle.base_values.specs.SchemaRules.Results.{◌>>=◌}
use Rattle.base_values.specs.Faults.{Refuses}

-- the items that were read, and those that are still read
abbrev pub with_front : {A C : Type 0} → List A → Result (List A × List Token) C → Result (List A × List Token) C
with_front front read = read >>= λ x. Ok (front ++ x.0, x.1)

regroup : {A C : Type 0} (front : List A) (one : A) (read : Result (List A × List Token) C) → with_front front (read >>= λ x. Ok (one ∷ x.0, x.1)) ≡ with_front (front ++ one ∷ []) read
regroup {A} front one (Ok x) = ap (λ (items : List A). Ok (items, x.1)) (simp append_assoc)
regroup front one (Err code) = refl

module _ {A C : Type 0} (item : List Token → Result (A × List Token) C) (ended : C) (front : List A) (most i : ℕ) (words : List Token) (total : Result (List A × List Token) C) where
  pub goes_on : (one : A) (following next : List Token) → i < most → item words ≡ Ok (one, following) → after_sign (codes ",") following ≡ Some next
      → with_front front (listed item ended (most - i) words) ≡ total → with_front (front ++ one ∷ []) (listed item ended (most - (i + 1)) next) ≡ total
  unfolding listed
  goes_on one following next lt read comma so_far =
      let k : most - i ≡ suc (most - (i + 1)) = omega arith in
      let step : with_front front (listed item ended (most - i) words) ≡ with_front (front ++ one ∷ []) (listed item ended (most - (i + 1)) next) = rw (k, read, comma) (regroup front one (listed item ended (most - (i + 1)) next)) in
      sym step ∙ so_far

  pub is_last : (one : A) (following : List Token) → i < most → item words ≡ Ok (one, following) → after_sign (codes ",") following ≡ None
      → with_front front (listed item ended (most - i) words) ≡ total → total ≡ Ok (front ++ one ∷ [], following)
  unfolding listed
  is_last one following lt read comma so_far =
      let k : most - i ≡ suc (most - (i + 1)) = omega arith in
      let step : with_front front (listed item ended (most - i) words) ≡ Ok (front ++ one ∷ [], following) = rw (k, read, comma) refl in
      sym so_far ∙ step

  pub is_refused : (code : C) → i < most → item words ≡ Err code → with_front front (listed item ended (most - i) words) ≡ total → total ≡ Err code
  unfolding listed
  is_refused code lt read so_far =
      let k : most - i ≡ suc (most - (i + 1)) = omega arith in
      let step : with_front front (listed item ended (most - i) words) ≡ Err code = rw (k, read) refl in
      sym so_far ∙ step

  pub is_over : most ≤ i → with_front front (listed item ended (most - i) words) ≡ total → total ≡ Err ended
  unfolding listed
  is_over le so_far =
      let k : most - i ≡ 0 = omega arith in
      let step : with_front front (listed item ended (most - i) words) ≡ Err ended = rw k refl in
      sym so_far ∙ step

-- an item that isn't read, by its fault
pub item_fails : {A C : Type 0} (item : List Token → Result (A × List Token) C) (ended : C) (fault : Fault C) (front : List A) (most i : ℕ) (words : List Token) (total : Result (List A × List Token) C)
    → i < most → Refuses fault (item words) → with_front front (listed item ended (most - i) words) ≡ total → Refuses fault total
item_fails item ended faults.Memory front most i words total lt read so_far = tt
item_fails item ended (faults.Refused code) front most i words total lt read so_far = is_refused item ended front most i words total code lt read so_far
