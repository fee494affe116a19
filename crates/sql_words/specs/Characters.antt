-- The bytes by which the words of MySQL's dialect are distinguished. All of them are ASCII, so no byte of another character is
-- taken for one.
use Rattle.std.specs.Prelude.{ℕ, Bool, false, not, ◌||◌, ◌==◌, List, [], ◌∷◌}
use Rattle.std.specs.Char.{is_ascii_alphabetic, is_ascii_digit}

-- blank, tab, line feed or carriage return (MySQL 8.0 manual, "Comments", and this project's rule)
abbrev pub is_white : ℕ → Bool
is_white b = b == 32 || b == 9 || b == 10 || b == 13

-- a line feed
abbrev pub is_line_end : ℕ → Bool
is_line_end b = b == 10

-- a letter, `_` or `$`: what an unquoted name begins with ("Schema Object Names"; that letters are ASCII and no digit comes first is this project's rule)
abbrev pub is_name_start : ℕ → Bool
is_name_start b = is_ascii_alphabetic b || b == 95 || b == 36

-- a letter, a digit, `_` or `$`: what an unquoted name goes on with
abbrev pub is_name_byte : ℕ → Bool
is_name_byte b = is_name_start b || is_ascii_digit b

-- `+` or `-`
abbrev pub is_plus_or_minus : ℕ → Bool
is_plus_or_minus b = b == 43 || b == 45

-- the quote ' or " of a text ("String Literals")
abbrev pub is_quote : ℕ → Bool
is_quote b = b == 39 || b == 34

-- in a text with this quote, a byte that is neither the quote nor a backslash
abbrev pub is_plain : ℕ → ℕ → Bool
is_plain quote b = not (b == quote || b == 92)

-- `<` or `>`
abbrev pub is_angle : ℕ → Bool
is_angle b = b == 60 || b == 62

-- `(`, `)`, `,`, `;`, `=`, `<`, `>` or `*`
abbrev pub is_sign : ℕ → Bool
is_sign b = is_angle b || b == 40 || b == 41 || b == 44 || b == 59 || b == 61 || b == 42

-- whether the list begins with this byte
abbrev pub begins_with : ℕ → List ℕ → Bool
begins_with byte [] = false
begins_with byte (b ∷ rest) = b == byte
