-- A sign and digits are read as the one word that stands for their number.
use Rattle.std.proofs.Common.{◌≡◌, ℕ, ◌+◌, ◌<◌, ◌≤◌, Bool, true, false, cond, nat_eq, nat_lt, ◌||◌, List, [], ◌∷◌, ◌++◌, length, get_or, drop, Some, None, Result, Ok, Err, refl, sym, ap, ◌∙◌, subst, arith, add-zero, eq-eqb, length-drop}
use Rattle.std.specs.Prelude.{ℤ, pos, neg_ℤ, nat_le}
use Rattle.std.specs.List.{prefix_len}
use Rattle.std.specs.Char.{is_ascii_digit}
use Rattle.std.specs.Str.{all_ascii_digits}
use Rattle.std.specs.Str.Parse.{digits_value}
use Rattle.std.proofs.Math.ListN.{get_or-append}
use Rattle.std.proofs.lemmas.Bool.{eqb-true, le-leb, le-ltb, and_parts, and_from}
use Rattle.std.proofs.lemmas.Bool.Decides.{nat_tests}
use Rattle.std.proofs.lemmas.List.{append-nil, drop-append-le, get_or-drop}
use Rattle.std.proofs.lemmas.List.Folds.{prefix_len-append}
use Rattle.sql_words.specs.declared.word.WordClass.TheVariants as class
use Rattle.sql_words.specs.declared.word.WordFault.{WordFault}
use Rattle.sql_words.specs.declared.word.WordFault.TheVariants.{TooLong}
use Rattle.sql_words.specs.declared.front.Front.{Front}
use Rattle.sql_words.specs.declared.front.Front.TheVariants.{Found}
use Rattle.sql_words.specs.Characters.{is_white, is_name_start}
use Rattle.sql_words.specs.Front.{begins_number, sign_width, digit_count, most_digits, number, front_at}
use Rattle.sql_words.specs.Readings.{words_of}
use Rattle.sql_words.specs.Meanings.{is_number, number_value, signed, AreDigits}
use Rattle.sql_words.proofs.Numbers.{IsNumber, number_parts, count_whole, number_digits}
use Rattle.sql_words.proofs.Reprinted.{words_of-one}

-- what a digit is not
record IsDigit (d : ℕ) : Type 0 where
  digit : is_ascii_digit d ≡ true
  white : is_white d ≡ false
  hash : nat_eq d 35 ≡ false
  plus : nat_eq d 43 ≡ false
  dash : nat_eq d 45 ≡ false
  no_comment : nat_eq 45 d ≡ false
  name : is_name_start d ≡ false

digit_is : (d : ℕ) → is_ascii_digit d ≡ true → IsDigit d
digit_is d e = record {
  digit = e;
  white = grind (arith, nat_tests, e);
  hash = grind (arith, nat_tests, e);
  plus = grind (arith, nat_tests, e);
  dash = grind (arith, nat_tests, e);
  no_comment = grind (arith, nat_tests, e);
  name = grind (arith, nat_tests, e);
}

-- digits behind at most one sign begin a number
front_at-digit : (place d : ℕ) (rest : List ℕ) → IsDigit d → front_at place (d ∷ rest) ≡ number place (d ∷ rest)
unfolding front_at
front_at-digit place d rest is = rw (is.white, is.hash, is.no_comment, is.name, is.plus, is.dash, is.digit) refl

front_at-plus : (place d : ℕ) (rest : List ℕ) → IsDigit d → front_at place (43 ∷ d ∷ rest) ≡ number place (43 ∷ d ∷ rest)
unfolding front_at
front_at-plus place d rest is = rw is.digit refl

front_at-minus : (place d : ℕ) (rest : List ℕ) → IsDigit d → front_at place (45 ∷ d ∷ rest) ≡ number place (45 ∷ d ∷ rest)
unfolding front_at
front_at-minus place d rest is = rw (is.no_comment, is.digit) refl

-- ---- the bytes of a number, by their sign

front_at-signed : (place : ℕ) (b : ℕ) (bytes : List ℕ) (plus minus : Bool) → nat_eq b 43 ≡ plus → nat_eq b 45 ≡ minus → is_ascii_digit (get_or (b ∷ bytes) (cond (plus || minus) 1 0) 0) ≡ true → front_at place (b ∷ bytes) ≡ number place (b ∷ bytes)
front_at-signed place b bytes false false p m e = front_at-digit place b bytes (digit_is b e)
front_at-signed place b [] true minus p m e = absurd cc
front_at-signed place b [] false true p m e = absurd cc
front_at-signed place b (d ∷ rest) true minus p m e =
    let same = eqb-true b 43 p in
    subst (λ k. front_at place (k ∷ d ∷ rest) ≡ number place (k ∷ d ∷ rest)) (sym same) (front_at-plus place d rest (digit_is d e))
front_at-signed place b (d ∷ rest) false true p m e =
    let same = eqb-true b 45 m in
    subst (λ k. front_at place (k ∷ d ∷ rest) ≡ number place (k ∷ d ∷ rest)) (sym same) (front_at-minus place d rest (digit_is d e))

-- a number begins where a sign or none and a digit stand
front_at-begun : (place : ℕ) (bytes : List ℕ) → begins_number bytes ≡ true → front_at place bytes ≡ number place bytes
front_at-begun place [] e = absurd cc
front_at-begun place (b ∷ bytes) e = front_at-signed place b bytes (nat_eq b 43) (nat_eq b 45) refl refl e

-- ---- where a number ends

no_digits : (rest : List ℕ) → is_ascii_digit (get_or rest 0 0) ≡ false → prefix_len is_ascii_digit rest ≡ 0
no_digits [] e = refl
no_digits (b ∷ rest) e = rw e refl

digits_end : (digits rest : List ℕ) → prefix_len is_ascii_digit digits ≡ length digits → is_ascii_digit (get_or rest 0 0) ≡ false → prefix_len is_ascii_digit (digits ++ rest) ≡ prefix_len is_ascii_digit digits
digits_end digits rest all other = prefix_len-append is_ascii_digit digits rest ∙ rw (eq-eqb _ _ all) (omega (arith, all, no_digits rest other))

-- a number, by its sign's length and how many digits it has
sized : (place sign digits : ℕ) → Result Front WordFault
sized place sign digits = cond (nat_lt most_digits digits) (Err (TooLong place)) (Ok (Found class.Number (sign + digits)))

sized-few : (place sign digits : ℕ) → digits ≤ most_digits → sized place sign digits ≡ Ok (Found class.Number (sign + digits))
unfolding sized
sized-few place sign digits few = rw (le-ltb _ _ few) refl

pub front_at-number : (place : ℕ) (bytes rest : List ℕ) → IsNumber bytes → is_ascii_digit (get_or rest 0 0) ≡ false → front_at place (bytes ++ rest) ≡ Ok (Found class.Number (length bytes))
unfolding sized
front_at-number place [] rest is other = absurd (let e = is.begun in cc)
front_at-number place (b ∷ more) rest is other =
    let bytes : List ℕ = b ∷ more in
    let s = sign_width bytes in
    let digits = number_digits bytes is in
    let size = length-drop s bytes in
    let within : s < length bytes = omega (arith, digits.some, size) in
    let begun : begins_number (bytes ++ rest) ≡ true = ap is_ascii_digit (get_or-append bytes rest 0 s within) ∙ is.begun in
    let count : digit_count (bytes ++ rest) ≡ digit_count bytes = ap (prefix_len is_ascii_digit) (drop-append-le s bytes rest (omega arith)) ∙ digits_end (drop s bytes) rest (count_whole bytes is) other in
    front_at-begun place (bytes ++ rest) begun ∙ ap (sized place s) count ∙ sized-few place s (digit_count bytes) is.few ∙ ap (λ n. Ok (Found class.Number n)) is.whole

-- ---- digits alone, and behind a sign

digits_first : (digits : List ℕ) → AreDigits digits → is_ascii_digit (get_or digits 0 0) ≡ true
digits_first [] are = absurd (omega (arith, are.some))
digits_first (d ∷ digits) are = (and_parts (is_ascii_digit d) (all_ascii_digits digits) are.all).0

digits_counted : (digits : List ℕ) → all_ascii_digits digits ≡ true → prefix_len is_ascii_digit digits ≡ length digits
digits_counted [] e = refl
digits_counted (d ∷ digits) e =
    let parts = and_parts (is_ascii_digit d) (all_ascii_digits digits) e in
    let more = digits_counted digits parts.1 in
    rw parts.0 (omega (arith, more))

-- what digits behind a sign, or alone, are
digits_number : (bytes : List ℕ) → AreDigits (drop (sign_width bytes) bytes) → is_number bytes ≡ true
digits_number bytes are =
    let s = sign_width bytes in
    let here : get_or (drop s bytes) 0 0 ≡ get_or bytes s 0 = get_or-drop s bytes 0 0 ∙ ap (λ i. get_or bytes i 0) (add-zero s) in
    let begun : begins_number bytes ≡ true = ap is_ascii_digit (sym here) ∙ digits_first (drop s bytes) are in
    let count = digits_counted (drop s bytes) are.all in
    let few : nat_le (digit_count bytes) most_digits ≡ true = le-leb _ _ (omega (arith, count, are.few)) in
    let whole : nat_eq (s + digit_count bytes) (length bytes) ≡ true = eq-eqb _ _ (omega (arith, count, are.some, length-drop s bytes)) in
    and_from _ _ (and_from _ _ begun few) whole

number_value-digits : (bytes : List ℕ) → AreDigits (drop (sign_width bytes) bytes) → number_value bytes ≡ Some (signed bytes)
number_value-digits bytes are = let number = digits_number bytes are in rw number refl

pub number_value-plus : (digits : List ℕ) → AreDigits digits → number_value (43 ∷ digits) ≡ Some (pos (digits_value 10 digits))
number_value-plus digits are = number_value-digits (43 ∷ digits) are

pub number_value-minus : (digits : List ℕ) → AreDigits digits → number_value (45 ∷ digits) ≡ Some (neg_ℤ (pos (digits_value 10 digits)))
number_value-minus digits are = number_value-digits (45 ∷ digits) are

pub number_value-unsigned : (digits : List ℕ) → AreDigits digits → number_value digits ≡ Some (pos (digits_value 10 digits))
number_value-unsigned digits are =
    let is = digit_is (get_or digits 0 0) (digits_first digits are) in
    let none : sign_width digits ≡ 0 = rw (is.plus, is.dash) refl in
    let same : signed digits ≡ pos (digits_value 10 digits) = rw (is.plus, is.dash) refl in
    number_value-digits digits (subst (λ s. AreDigits (drop s digits)) (sym none) are) ∙ ap (λ z. Some z) same

-- ---- a number as a word

some_number : (b : Bool) (made number : ℤ) → cond b (Some made) None ≡ Some number → b ≡ true
some_number true made number e = refl
some_number false made number e = absurd cc

is_number-from : (bytes : List ℕ) (number : ℤ) → number_value bytes ≡ Some number → IsNumber bytes
is_number-from bytes number e = number_parts bytes (some_number (is_number bytes) (signed bytes) number e)

pub front_at-number_value : (place : ℕ) (bytes rest : List ℕ) (number : ℤ) → number_value bytes ≡ Some number → is_ascii_digit (get_or rest 0 0) ≡ false → front_at place (bytes ++ rest) ≡ Ok (Found class.Number (length bytes))
front_at-number_value place bytes rest number e other = front_at-number place bytes rest (is_number-from bytes number e) other

pub words_of-number : (bytes : List ℕ) (number : ℤ) → number_value bytes ≡ Some number → words_of bytes ≡ Ok (record { class = class.Number; text = bytes; place = 0 } ∷ [])
words_of-number bytes number e =
    let is = is_number-from bytes number e in
    let digits = number_digits bytes is in
    let some : 0 < length bytes = omega (arith, digits.some, length-drop (sign_width bytes) bytes) in
    words_of-one class.Number bytes some (ap (front_at 0) (sym (append-nil bytes)) ∙ front_at-number 0 bytes [] is refl)
