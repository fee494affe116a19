-- What is printed of a number is read as that number.
use Rattle.std.proofs.Common.{◌≡◌, ℕ, suc, ◌^◌, ◌<◌, Some, ap, ◌∙◌}
use Rattle.std.specs.Prelude.{ℤ, pos, negsuc, neg_ℤ, unsigned_abs}
use Rattle.std.specs.Fmt.{decimal, signed_decimal}
use Rattle.sql_words.specs.Meanings.{number_value}
use Rattle.sql_words.proofs.NumberWords.{number_value-unsigned, number_value-minus}
use Rattle.sql_grammar.proofs.WordValues.ReadBack.{decimal_digits, decimal_value}

pub number_value-decimal : (n : ℕ) → n < 10 ^ 38 → number_value (decimal n) ≡ Some (pos n)
number_value-decimal n few = number_value-unsigned (decimal n) (decimal_digits n few) ∙ ap (λ (k : ℕ). Some (pos k)) (decimal_value n few)

pub number_value-printed : (number : ℤ) → unsigned_abs number < 10 ^ 38 → number_value (signed_decimal number) ≡ Some number
number_value-printed (pos n) few = number_value-decimal n few
number_value-printed (negsuc n) few = number_value-minus (decimal (suc n)) (decimal_digits (suc n) few) ∙ ap (λ (k : ℕ). Some (neg_ℤ (pos k))) (decimal_value (suc n) few)
