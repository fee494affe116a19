-- The numbers of a command line. This project's rule.
use Rattle.std.specs.Prelude.{ℕ, ◌^◌, ◌==◌, Bool, false, not, ◌&&◌, nat_lt, nat_le, if◌then◌else◌, List, [], ◌∷◌, Option, Some, None, option_and_then}
use Rattle.std.specs.Char.{is_ascii_digit}
use Rattle.std.specs.List.{list_all}
use Rattle.std.specs.Str.Parse.{digits_value}

-- digits without a sign or a leading zero: `0`, `7`, `42`
abbrev pub is_number : List ℕ → Bool
is_number [] = false
is_number (digit ∷ []) = is_ascii_digit digit
is_number (digit ∷ next ∷ digits) = not (digit == 48) && list_all is_ascii_digit (digit ∷ next ∷ digits)

abbrev pub below_2_64 : ℕ → Option ℕ
below_2_64 number = if nat_lt number (2 ^ 64) then Some number else None

-- the number below 2^64 that a word is
abbrev pub number_of : List ℕ → Option ℕ
number_of word = if is_number word then below_2_64 (digits_value 10 word) else None

abbrev pub up_to_16 : ℕ → Option ℕ
up_to_16 number = if nat_le 1 number && nat_le number 16 then Some number else None

-- the count of workers that a word is: 1 to 16
abbrev pub workers_of : List ℕ → Option ℕ
workers_of word = option_and_then up_to_16 (number_of word)
