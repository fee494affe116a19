-- How a text and bytes are written as one word. (This project's rule for what it prints; each is a literal of MySQL, "String Literals", "Hexadecimal Literals".)
use Rattle.std.specs.Prelude.{ℕ, ◌/◌, ◌%◌, ◌==◌, if◌then◌else◌, List, [], ◌∷◌, ◌++◌}
use Rattle.std.specs.List.{flat_map}
use Rattle.std.specs.Char.{digit_char}

-- a byte of a text: the quote and the backslash doubled, and line feed, carriage return, tab and NUL as escapes
abbrev pub spelled : ℕ → List ℕ
spelled b =
    if b == 39 then 39 ∷ 39 ∷ []
    else (if b == 92 then 92 ∷ 92 ∷ []
    else (if b == 10 then 92 ∷ 110 ∷ []
    else (if b == 13 then 92 ∷ 114 ∷ []
    else (if b == 9 then 92 ∷ 116 ∷ []
    else (if b == 0 then 92 ∷ 48 ∷ []
    else b ∷ [])))))

-- a text between single quotes
abbrev pub printed_text : List ℕ → List ℕ
printed_text value = 39 ∷ flat_map spelled value ++ 39 ∷ []

-- a byte as two hexadecimal digits, in lower case
abbrev pub hex_pair : ℕ → List ℕ
hex_pair b = digit_char (b / 16) ∷ digit_char (b % 16) ∷ []

-- bytes as x'..'
abbrev pub printed_bytes : List ℕ → List ℕ
printed_bytes value = 120 ∷ 39 ∷ flat_map hex_pair value ++ 39 ∷ []
