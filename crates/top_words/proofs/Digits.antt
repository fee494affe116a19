-- Digits of a number.
use Rattle.std.proofs.Common.{◌≡◌, ◌∙◌, ℕ, ◌==◌, ◌<◌, ◌^◌, Bool, true, false, cond, nat_lt, List, [], ◌∷◌, length, Option, Some, None, Result, Ok, Err, refl, sym, ap, subst, arith, rules}
use Rattle.std.proofs.lemmas.Bool.{and_parts}
use Rattle.std.proofs.lemmas.Bool.Decides.{nat_tests}
use Rattle.std.proofs.lemmas.Str.Parse.{IsNumeralModel, numerals_by_value, parse_digits}
use Rattle.std.specs.Char.{is_ascii_digit}
use Rattle.std.specs.List.{list_all}
use Rattle.std.specs.Result.{OkIff, result_ok}
use Rattle.std.specs.Str.Parse.{ParsesUnsigned, digits_value}
use Rattle.top_words.specs.Numbers.{is_number, number_of, below_2_64}

are_one : (a b : ℕ) → (a == b) ≡ true → a ≡ b
are_one a b is = grind (arith, nat_tests)

either : (P : ℕ → Type 0) (d k : ℕ) → P k → ((d == k) ≡ false → P d) → P d
either P d k at other = go (d == k) refl
  where
    go : (b : Bool) → (d == k) ≡ b → P d
    go true is = subst P (sym (are_one d k is)) at
    go false is = other is

-- what holds of the ten digits holds of each
pub of_each_digit : (P : ℕ → Type 0) → P 48 → P 49 → P 50 → P 51 → P 52 → P 53 → P 54 → P 55 → P 56 → P 57 → (d : ℕ) → is_ascii_digit d ≡ true → P d
of_each_digit P p0 p1 p2 p3 p4 p5 p6 p7 p8 p9 d is =
    either P d 48 p0 (λ n0. either P d 49 p1 (λ n1. either P d 50 p2 (λ n2. either P d 51 p3 (λ n3. either P d 52 p4 (λ n4.
    either P d 53 p5 (λ n5. either P d 54 p6 (λ n6. either P d 55 p7 (λ n7. either P d 56 p8 (λ n8. either P d 57 p9 (λ n9.
    absurd (grind (arith, nat_tests, is, n0, n1, n2, n3, n4, n5, n6, n7, n8, n9))))))))))))

-- ---- numbers

numerals : IsNumeralModel (λ ds. list_all is_ascii_digit ds ≡ true) (digits_value 10)
numerals = numerals_by_value _ (search rules)

number_digits : (word : List ℕ) → is_number word ≡ true → list_all is_ascii_digit word ≡ true
number_digits [] is = absurd (cc)
number_digits (digit ∷ []) is = rw is refl
number_digits (digit ∷ next ∷ digits) is = (and_parts _ _ is).1

number_long : (word : List ℕ) → is_number word ≡ true → 0 < length word
number_long [] is = absurd (cc)
number_long (digit ∷ digits) is = omega arith

small : (n : ℕ) → n < 2 ^ 64 → below_2_64 n ≡ Some n
small n lt = let is : nat_lt n (2 ^ 64) ≡ true = grind (arith, nat_tests) in rw is refl

large : (n : ℕ) → (n < 2 ^ 64 → ⊥) → below_2_64 n ≡ None
large n not = go (nat_lt n (2 ^ 64)) refl
  where
    go : (b : Bool) → nat_lt n (2 ^ 64) ≡ b → below_2_64 n ≡ None
    go true is = absurd (not (grind (arith, nat_tests)))
    go false is = rw is refl

parsed : {E : Type 0} (word : List ℕ) (r : Result ℕ E) → 0 < length word → OkIff r ((0 < length word) × (digits_value 10 word < 2 ^ 64)) (digits_value 10 word) → result_ok r ≡ below_2_64 (digits_value 10 word)
parsed word (Ok x) long read = ap (λ (n : ℕ). Some n) read.1 ∙ sym (small (digits_value 10 word) read.0.1)
parsed word (Err e) long read = sym (large (digits_value 10 word) (λ lt. read (long, lt)))

-- what is parsed of a number's digits is the number
pub number_read : {E : Type 0} (word : List ℕ) (r : Result ℕ E) → ParsesUnsigned 64 10 word r → is_number word ≡ true → result_ok r ≡ number_of word
number_read word r reads is = parsed word r (number_long word is) (parse_digits numerals 64 word r reads (number_digits word is)) ∙ rw is refl

-- a number begins with a digit
pub record Begins (word : List ℕ) : Type 0 where
  pub digit : ℕ
  pub digits : List ℕ
  pub is : word ≡ digit ∷ digits
  pub its : is_ascii_digit digit ≡ true

begins : (word : List ℕ) → list_all is_ascii_digit word ≡ true → 0 < length word → Begins word
begins [] are long = absurd (omega arith)
begins (digit ∷ digits) are long = record { digit = digit; digits = digits; is = refl; its = (and_parts _ _ are).0 }

if_some : {A : Type 0} (b : Bool) (o : Option A) (x : A) → cond b o None ≡ Some x → b ≡ true
if_some true o x is = refl
if_some false o x is = absurd (cc)

pub number_begins : (word : List ℕ) (n : ℕ) → number_of word ≡ Some n → Begins word
number_begins word n is =
    let number : is_number word ≡ true = if_some (is_number word) _ n is in
    begins word (number_digits word number) (number_long word number)
