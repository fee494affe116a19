-- A number is parsed to what its digits and its sign spell.
use Rattle.std.proofs.Common.{◌≡◌, ℕ, ◌+◌, ◌^◌, ◌<◌, ◌≤◌, Bool, true, false, cond, nat_eq, ◌&&◌, ◌||◌, List, [], ◌∷◌, length, get_or, drop, Result, Ok, refl, ap, ◌∙◌, arith, add-zero, lit<}
use Rattle.std.specs.Prelude.{ℤ, pos, neg_ℤ, nat_le}
use Rattle.std.specs.Int.{w128}
use Rattle.std.specs.List.{prefix_len}
use Rattle.std.specs.Char.{is_ascii_digit}
use Rattle.std.specs.Str.{all_ascii_digits}
use Rattle.std.specs.Str.Parse.{digits_value, ParsesSigned}
use Rattle.std.proofs.lemmas.Str.Parse.{IsNumeralModel, numerals_by_value, tells_all_ascii_digits, digits_value_short, parse_signed_minus, parse_signed_plus, parse_signed_plain}
use Rattle.std.proofs.lemmas.Bool.{eqb-true, eqb-false, leb-true}
use Rattle.std.proofs.lemmas.List.{length-drop, get_or-drop}
use Rattle.std.proofs.lemmas.Result.{Ok-from_Ok_iff}
use Rattle.sql_words.specs.Front.{begins_number, sign_width, digit_count, most_digits}
use Rattle.sql_words.specs.Meanings.{is_number, signed, AreDigits}

pub own : IsNumeralModel (λ ds. all_ascii_digits ds ≡ true) (digits_value 10)
own = numerals_by_value _ tells_all_ascii_digits

digits_all-by : (d : ℕ) (ds : List ℕ) (b : Bool) → is_ascii_digit d ≡ b → prefix_len is_ascii_digit (d ∷ ds) ≡ length (d ∷ ds) → (prefix_len is_ascii_digit ds ≡ length ds → all_ascii_digits ds ≡ true) → all_ascii_digits (d ∷ ds) ≡ true
digits_all-by d ds true t e more =
    let one : prefix_len is_ascii_digit (d ∷ ds) ≡ 1 + prefix_len is_ascii_digit ds = rw t refl in
    rw t (more (omega (arith, one, e)))
digits_all-by d ds false t e more =
    let none : prefix_len is_ascii_digit (d ∷ ds) ≡ 0 = rw t refl in
    absurd (omega (arith, none, e))

digits_all : (ds : List ℕ) → prefix_len is_ascii_digit ds ≡ length ds → all_ascii_digits ds ≡ true
digits_all [] e = refl
digits_all (d ∷ ds) e = digits_all-by d ds (is_ascii_digit d) refl e (digits_all ds)

small : (ds : List ℕ) → AreDigits ds → digits_value 10 ds < 2 ^ 127
small ds are = let big : 10 ^ 38 < 2 ^ 127 = lit< tt in omega (arith, big, digits_value_short own ds 38 are.all are.few)

-- what the digits behind the first s bytes make of a parse
module _ {E : Type 0} (bytes : List ℕ) (r : Result ℤ E) (parsed : ParsesSigned w128 10 bytes r) where
  below_zero : get_or bytes 0 0 ≡ 45 → AreDigits (drop 1 bytes) → r ≡ Ok (neg_ℤ (pos (digits_value 10 (drop 1 bytes))))
  below_zero e are = Ok-from_Ok_iff r _ _ (parse_signed_minus own w128 bytes r parsed e) (are.all, are.some, omega (arith, small (drop 1 bytes) are))

  after_plus : get_or bytes 0 0 ≡ 43 → AreDigits (drop 1 bytes) → r ≡ Ok (pos (digits_value 10 (drop 1 bytes)))
  after_plus e are = Ok-from_Ok_iff r _ _ (parse_signed_plus own w128 bytes r parsed e) (are.all, are.some, small (drop 1 bytes) are)

  plain : (get_or bytes 0 0 ≡ 43 → ⊥) → (get_or bytes 0 0 ≡ 45 → ⊥) → AreDigits bytes → r ≡ Ok (pos (digits_value 10 bytes))
  plain p m are = Ok-from_Ok_iff r _ _ (parse_signed_plain own w128 bytes r parsed p m) (are.all, are.some, small bytes are)

  by_sign : (plus minus : Bool) → nat_eq (get_or bytes 0 0) 43 ≡ plus → nat_eq (get_or bytes 0 0) 45 ≡ minus → AreDigits (drop (cond (plus || minus) 1 0) bytes)
      → r ≡ Ok (cond minus (neg_ℤ (pos (digits_value 10 (drop (cond (plus || minus) 1 0) bytes)))) (pos (digits_value 10 (drop (cond (plus || minus) 1 0) bytes))))
  by_sign true true p m are = absurd (omega (arith, eqb-true _ _ p, eqb-true _ _ m))
  by_sign true false p m are = after_plus (eqb-true _ _ p) are
  by_sign false true p m are = below_zero (eqb-true _ _ m) are
  by_sign false false p m are = plain (eqb-false _ _ p) (eqb-false _ _ m) are

three_parts : (a b c : Bool) → (a && b && c) ≡ true → (a ≡ true) × (b ≡ true) × (c ≡ true)
three_parts true true true e = (refl, refl, refl)
three_parts true true false e = absurd cc
three_parts true false c e = absurd cc
three_parts false b c e = absurd cc

some_digits : (ds : List ℕ) → is_ascii_digit (get_or ds 0 0) ≡ true → 0 < length ds
some_digits [] e = absurd cc
some_digits (d ∷ ds) e = omega arith

-- what the test for a number says
pub record IsNumber (bytes : List ℕ) : Type 0 where
  pub begun : begins_number bytes ≡ true
  pub few : digit_count bytes ≤ most_digits
  pub whole : sign_width bytes + digit_count bytes ≡ length bytes

pub number_parts : (bytes : List ℕ) → is_number bytes ≡ true → IsNumber bytes
number_parts bytes e =
    let parts = three_parts (begins_number bytes) (nat_le (digit_count bytes) most_digits) (nat_eq (sign_width bytes + digit_count bytes) (length bytes)) e in
    record { begun = parts.0; few = leb-true _ _ parts.1; whole = eqb-true _ _ parts.2 }

-- the digits behind the sign are all that follows it
pub count_whole : (bytes : List ℕ) → IsNumber bytes → digit_count bytes ≡ length (drop (sign_width bytes) bytes)
count_whole bytes is = omega (arith, is.whole, length-drop (sign_width bytes) bytes)

pub number_digits : (bytes : List ℕ) → IsNumber bytes → AreDigits (drop (sign_width bytes) bytes)
number_digits bytes is =
    let s = sign_width bytes in
    let same = count_whole bytes is in
    let here : get_or (drop s bytes) 0 0 ≡ get_or bytes s 0 = get_or-drop s bytes 0 0 ∙ ap (λ i. get_or bytes i 0) (add-zero s) in
    record { all = digits_all (drop s bytes) same; some = some_digits (drop s bytes) (ap is_ascii_digit here ∙ is.begun); few = omega (arith, is.few, same) }

pub number_parsed : {E : Type 0} (bytes : List ℕ) (r : Result ℤ E) → ParsesSigned w128 10 bytes r → is_number bytes ≡ true → r ≡ Ok (signed bytes)
number_parsed bytes r parsed e = by_sign bytes r parsed (nat_eq (get_or bytes 0 0) 43) (nat_eq (get_or bytes 0 0) 45) refl refl (number_digits bytes (number_parts bytes e))
