-- A text that is a number parses as that number.
use Rattle.std.proofs.Common.{◌≡◌, ℕ, ◌<◌, ◌≤◌, ◌^◌, Bool, true, false, cond, eqb, ltb, leb, ◌&&◌, List, [], ◌∷◌, length, Some, None, Result, Ok, refl, ap, arith, rules, lit<}
use Rattle.std.specs.Prelude.{ℤ, pos, neg_ℤ, is_some}
use Rattle.std.specs.Option.{option_map}
use Rattle.std.specs.Result.{result_ok}
use Rattle.std.specs.Int.{w128}
use Rattle.std.specs.Char.{is_ascii_digit}
use Rattle.std.specs.List.{list_all}
use Rattle.std.specs.Str.Parse.{digits_value, ParsesSigned}
use Rattle.std.proofs.lemmas.Bool.{eqb-true, eqb-false, and_parts}
use Rattle.std.proofs.lemmas.Result.{Ok-from_Ok_iff}
use Rattle.std.proofs.lemmas.Str.Parse.{IsNumeralModel, numerals_by_value, digits_value_short, parse_signed_minus, parse_signed_plain, parse_signed_plus}
use Rattle.base_values.specs.StoredValues.{digits_number, text_number}

abbrev AreDigits : List ℕ → Type 0
AreDigits ds = list_all is_ascii_digit ds ≡ true

own : IsNumeralModel AreDigits (digits_value 10)
own = numerals_by_value AreDigits (search rules)

-- one to 38 digits, and nothing else
record IsShort (ds : List ℕ) : Type 0 where
  all : AreDigits ds
  some : 0 < length ds
  fits : digits_value 10 ds < 2 ^ 127

short_from : (ds : List ℕ) → (list_all is_ascii_digit ds && (ltb 0 (length ds) && leb (length ds) 38)) ≡ true → IsShort ds
short_from ds e =
    let p = and_parts (list_all is_ascii_digit ds) (ltb 0 (length ds) && leb (length ds) 38) e in
    let q = and_parts (ltb 0 (length ds)) (leb (length ds) 38) p.1 in
    let few : length ds ≤ 38 = grind (arith, q.1) in
    let big : 10 ^ 38 < 2 ^ 127 = lit< tt in
    let small : digits_value 10 ds < 10 ^ 38 = digits_value_short own ds 38 p.0 few in
    record { all = p.0; some = grind (arith, q.0); fits = omega arith }

-- what is parsed where the digits are short
digits_parsed : {E : Type 0} (made : ℕ → ℤ) (ds : List ℕ) (r : Result ℤ E) → (IsShort ds → r ≡ Ok (made (digits_value 10 ds))) → is_some (option_map made (digits_number ds)) ≡ true → result_ok r ≡ option_map made (digits_number ds)
digits_parsed made ds r parses there = by_test (list_all is_ascii_digit ds && (ltb 0 (length ds) && leb (length ds) 38)) refl there
  where
    by_test : (b : Bool) → (list_all is_ascii_digit ds && (ltb 0 (length ds) && leb (length ds) 38)) ≡ b → is_some (option_map made (cond b (Some (digits_value 10 ds)) None)) ≡ true → result_ok r ≡ option_map made (cond b (Some (digits_value 10 ds)) None)
    by_test true e h = ap result_ok (parses (short_from ds e))
    by_test false e h = absurd cc

pub parsed : {E : Type 0} (text : List ℕ) (r : Result ℤ E) → ParsesSigned w128 10 text r → is_some (text_number text) ≡ true → result_ok r ≡ text_number text
unfolding text_number
parsed [] r h there = absurd cc
parsed (c ∷ text) r h there = by_minus (eqb c 45) refl there
  where
    by_plus : (b : Bool) → eqb c 43 ≡ b → eqb c 45 ≡ false → is_some (option_map pos (digits_number (cond b text (c ∷ text)))) ≡ true → result_ok r ≡ option_map pos (digits_number (cond b text (c ∷ text)))
    by_plus true e f there = digits_parsed pos text r (λ short. Ok-from_Ok_iff r _ _ (parse_signed_plus own w128 (c ∷ text) r h (eqb-true c 43 e)) (short.all, short.some, short.fits)) there
    by_plus false e f there = digits_parsed pos (c ∷ text) r (λ short. Ok-from_Ok_iff r _ _ (parse_signed_plain own w128 (c ∷ text) r h (eqb-false c 43 e) (eqb-false c 45 f)) (short.all, short.some, short.fits)) there

    by_minus : (b : Bool) → eqb c 45 ≡ b → is_some (cond b (option_map (λ n. neg_ℤ (pos n)) (digits_number text)) (option_map pos (digits_number (cond (eqb c 43) text (c ∷ text))))) ≡ true → result_ok r ≡ cond b (option_map (λ n. neg_ℤ (pos n)) (digits_number text)) (option_map pos (digits_number (cond (eqb c 43) text (c ∷ text))))
    by_minus true e there = digits_parsed (λ n. neg_ℤ (pos n)) text r (λ short. Ok-from_Ok_iff r _ _ (parse_signed_minus own w128 (c ∷ text) r h (eqb-true c 45 e)) (short.all, short.some, omega (arith, short.fits))) there
    by_minus false e there = by_plus (eqb c 43) refl e there
