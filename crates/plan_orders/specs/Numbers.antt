-- Which words are numbers. This project's rule.
use Rattle.std.specs.Prelude.{ℕ, ◌-◌, ◌^◌, min, Bool, false, not, ◌&&◌, ◌==◌, nat_lt, if◌then◌else◌, List, [], ◌∷◌, Option, Some, None}
use Rattle.std.specs.Char.{is_ascii_digit}
use Rattle.std.specs.List.{list_all}
use Rattle.std.specs.Str.Parse.{digits_value}
use Rattle.base_values.specs.GhoSchema.Options.{◌>>=◌}

-- digits without a sign or a leading zero, so from 1 on
abbrev pub is_number : List ℕ → Bool
is_number [] = false
is_number (digit ∷ digits) = not (digit == 48) && list_all is_ascii_digit (digit ∷ digits)

-- The number that a word is. (Numbers past 32 bits are taken for one: each stands for the greatest of 32 bits, which is out of
-- every range.)
abbrev pub number_of : List ℕ → Option ℕ
number_of word = if is_number word then Some (min (digits_value 10 word) (2 ^ 32 - 1)) else None

abbrev pub at_most : ℕ → ℕ → Option ℕ
at_most limit number = if nat_lt limit number then None else Some number

-- a number from 1 to the limit
abbrev pub number_up_to : ℕ → List ℕ → Option ℕ
number_up_to limit word = number_of word >>= at_most limit
