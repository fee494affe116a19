-- What is between quotes, and what it stands for. Source: MySQL 8.0 manual, "String Literals", "Hexadecimal Literals" and
-- "Schema Object Names".
use Rattle.std.specs.Prelude.{ℕ, ◌+◌, ◌*◌, ◌&&◌, ◌||◌, ◌==◌, nat_lt, if◌then◌else◌, List, [], ◌∷◌, ◌++◌, length, take, Option, Some, None}
use Rattle.std.specs.Option.{option_map}
use Rattle.std.specs.List.{position_or_len}
use Rattle.std.specs.Char.{is_ascii_hexdigit, digit_value}

-- a piece of a quoted word: the bytes that it stands for, and how many bytes spell it
pub record Piece : Type 0 where
  pub value : List ℕ
  pub length : ℕ

-- the closing quote, which stands for nothing
abbrev pub closing : Piece
closing = record { value = []; length = 1 }

-- a piece, and after it the others up to the closing quote, where there is one
abbrev pub and_then : Piece → Option Piece → Option Piece
and_then first others = option_map (λ o. record { value = first.value ++ o.value; length = first.length + o.length }) others

-- how many bytes spell it
abbrev pub length_of : Option Piece → Option ℕ
length_of piece = option_map (λ p. p.length) piece

-- what it stands for
abbrev pub value_of : Option Piece → Option (List ℕ)
value_of piece = option_map (λ p. p.value) piece

-- what a backslash and this byte stand for: \0, \b, \n, \r, \t and \Z are control characters, \% and \_ keep the backslash, and any other character stands for itself
abbrev pub escaped : ℕ → List ℕ
escaped c =
    if c == 48 then 0 ∷ []
    else (if c == 98 then 8 ∷ []
    else (if c == 110 then 10 ∷ []
    else (if c == 114 then 13 ∷ []
    else (if c == 116 then 9 ∷ []
    else (if c == 90 then 26 ∷ []
    else (if c == 37 || c == 95 then 92 ∷ c ∷ []
    else c ∷ []))))))

-- a text after its opening quote, with the closing one: its quote doubled stands for itself, and a backslash (92) takes the
-- next character with it; None where none closes it
unfoldable pub text_inside : ℕ → List ℕ → Option Piece
text_inside quote [] = None
text_inside quote (b ∷ []) = if b == quote then Some closing else None
text_inside quote (b ∷ c ∷ rest) =
    if b == quote && c == quote then and_then (record { value = quote ∷ []; length = 2 }) (text_inside quote rest)
    else (if b == quote then Some closing
    else (if b == 92 then and_then (record { value = escaped c; length = 2 }) (text_inside quote rest)
    else and_then (record { value = b ∷ []; length = 1 }) (text_inside quote (c ∷ rest))))

-- pairs of hexadecimal digits after x', with the closing quote (39); None where anything else is there
unfoldable pub bytes_inside : List ℕ → Option Piece
bytes_inside [] = None
bytes_inside (b ∷ []) = if b == 39 then Some closing else None
bytes_inside (b ∷ c ∷ rest) =
    if is_ascii_hexdigit b && is_ascii_hexdigit c then and_then (record { value = (16 * digit_value b + digit_value c) ∷ []; length = 2 }) (bytes_inside rest)
    else (if b == 39 then Some closing else None)

-- a name after its opening backquote (96), with the closing one; None where none closes it
unfoldable pub name_inside : List ℕ → Option Piece
name_inside bytes =
    let end = position_or_len (λ b. b == 96) bytes in
    if nat_lt end (length bytes) then Some (record { value = take end bytes; length = end + 1 }) else None
