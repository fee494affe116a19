-- The digits of numbers: how many there are, and tests that each passes.
use Rattle.std.proofs.Common.{◌≡◌, ◌∙◌, ℕ, ◌<◌, ◌≤◌, ◌^◌, Bool, true, List, [], ◌∷◌, ◌++◌, length, refl, arith, lit<}
use Rattle.std.proofs.lemmas.Bool.{and_from, and_parts}
use Rattle.std.proofs.lemmas.Fmt.{length-decimal-le}
use Rattle.std.proofs.lemmas.List.Folds.{list_all-append}
use Rattle.law_texts.proofs.Numerals.{are_digits}
use Rattle.std.specs.Char.{is_ascii_digit}
use Rattle.std.specs.Fmt.{decimal}
use Rattle.std.specs.List.{AllByRecursion, flat_map, list_all}

pub few_digits : (n : ℕ) → n < 2 ^ 64 → length (decimal n) ≤ 20
few_digits n wide = let more : 2 ^ 64 < 10 ^ 20 = lit< tt in length-decimal-le 20 n (omega arith) (omega arith) wide

-- a test that each digit passes
abbrev pub IsPassedByDigits : (ℕ → Bool) → Type 0
IsPassedByDigits test = (digit : ℕ) → is_ascii_digit digit ≡ true → test digit ≡ true

all_pass : (test : ℕ → Bool) → IsPassedByDigits test → (digits : List ℕ) → list_all is_ascii_digit digits ≡ true → list_all test digits ≡ true
all_pass test each [] all = refl
all_pass test each (digit ∷ digits) all =
    let parts = and_parts (is_ascii_digit digit) (list_all is_ascii_digit digits) all in
    and_from _ _ (each digit parts.0) (all_pass test each digits parts.1)

pub number_passes : (test : ℕ → Bool) → IsPassedByDigits test → (n : ℕ) → n < 2 ^ 64 → list_all test (decimal n) ≡ true
number_passes test each n wide = all_pass test each (decimal n) (are_digits n wide)

pub both_pass : (test : ℕ → Bool) (front following : List ℕ) → list_all test front ≡ true → list_all test following ≡ true → list_all test (front ++ following) ≡ true
both_pass test front following first second = list_all-append test front following ∙ and_from _ _ first second

pub pieces_pass : {X : Type 0} (test : ℕ → Bool) (piece : X → List ℕ) (xs : List X) → AllByRecursion (λ x. list_all test (piece x) ≡ true) xs → list_all test (flat_map piece xs) ≡ true
pieces_pass test piece [] all = refl
pieces_pass test piece (x ∷ xs) all = both_pass test (piece x) (flat_map piece xs) all.0 (pieces_pass test piece xs all.1)
