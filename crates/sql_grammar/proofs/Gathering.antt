-- Reading items one behind the other as long as one begins, as a loop does.
use Rattle.std.proofs.Common.{◌≡◌, ℕ, suc, ◌-◌, ◌+◌, ◌≤◌, ◌<◌, List, Option, Some, None, Result, Ok, Err, refl, sym, ◌∙◌, arith}
use Rattle.base_values.specs.declared.fault.Fault.{Fault}
use Rattle.base_values.specs.declared.fault.Fault.TheVariants as faults
use Rattle.sql_grammar.specs.declared.token.Token.{Token}
use Rattle.sql_grammar.specs.Listed.{gathered}
use Rattle.base_values.specs.Faults.{Refuses}

module _ {S X C : Type 0} (item : List Token → Result (Option (X × List Token)) C) (add : S → X → S) (so_far : S) (most i : ℕ) (words : List Token) (total : Result (S × List Token) C) where
  pub one_more : (x : X) (following : List Token) → i < most → item words ≡ Ok (Some (x, following)) → gathered item add (most - i) so_far words ≡ total → gathered item add (most - (i + 1)) (add so_far x) following ≡ total
  unfolding gathered
  one_more x following lt read e =
      let k : most - i ≡ suc (most - (i + 1)) = omega arith in
      let step : gathered item add (most - i) so_far words ≡ gathered item add (most - (i + 1)) (add so_far x) following = rw (k, read) refl in
      sym step ∙ e

  pub no_more : i < most → item words ≡ Ok None → gathered item add (most - i) so_far words ≡ total → total ≡ Ok (so_far, words)
  unfolding gathered
  no_more lt read e =
      let k : most - i ≡ suc (most - (i + 1)) = omega arith in
      let step : gathered item add (most - i) so_far words ≡ Ok (so_far, words) = rw (k, read) refl in
      sym e ∙ step

  pub one_refused : (code : C) → i < most → item words ≡ Err code → gathered item add (most - i) so_far words ≡ total → total ≡ Err code
  unfolding gathered
  one_refused code lt read e =
      let k : most - i ≡ suc (most - (i + 1)) = omega arith in
      let step : gathered item add (most - i) so_far words ≡ Err code = rw (k, read) refl in
      sym e ∙ step

  pub all_read : most ≤ i → gathered item add (most - i) so_far words ≡ total → total ≡ Ok (so_far, words)
  unfolding gathered
  all_read le e =
      let k : most - i ≡ 0 = omega arith in
      let step : gathered item add (most - i) so_far words ≡ Ok (so_far, words) = rw k refl in
      sym e ∙ step

-- an item that isn't read, by its fault
pub one_fails : {S X C : Type 0} (item : List Token → Result (Option (X × List Token)) C) (add : S → X → S) (fault : Fault C) (so_far : S) (most i : ℕ) (words : List Token) (total : Result (S × List Token) C)
    → i < most → Refuses fault (item words) → gathered item add (most - i) so_far words ≡ total → Refuses fault total
one_fails item add faults.Memory so_far most i words total lt read e = tt
one_fails item add (faults.Refused code) so_far most i words total lt read e = one_refused item add so_far most i words total code lt read e
