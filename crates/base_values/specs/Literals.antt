-- How values and rows are printed: as literals that read back as what was printed (MySQL's manual, "String Literals", "Numeric Literals", "Hexadecimal Literals", "NULL Values").
use Rattle.std.specs.Prelude.{ℕ, ◌/◌, ◌%◌, if◌then◌else◌, ◌==◌, false, List, [], ◌∷◌, ◌++◌, codes}
use Rattle.std.specs.Fmt.{signed_decimal, digit_glyph}
use Rattle.std.specs.List.{flat_map}
use Rattle.base_values.specs.declared.value.Value.{Value}
use Rattle.base_values.specs.declared.value.Value.TheVariants.{Null, Num, Text, Blob}

-- A text's byte between quotes: a quote (39) doubled, backslash (92), line feed (10), carriage return (13), tab (9) and NUL (0) by their escapes, any other as it is.
abbrev pub escaped : ℕ → List ℕ
escaped byte = if byte == 39 then codes "''" else (if byte == 92 then codes "\\\\" else (if byte == 10 then codes "\\n" else (if byte == 13 then codes "\\r" else (if byte == 9 then codes "\\t" else (if byte == 0 then codes "\\0" else byte ∷ [])))))

-- A byte as two hexadecimal digits in lower case.
abbrev pub hexadecimal : ℕ → List ℕ
hexadecimal byte = digit_glyph false (byte / 16) ∷ digit_glyph false (byte % 16) ∷ []

-- A value's text.
unfoldable pub printed : Value → List ℕ
printed Null = codes "NULL"
printed (Num n) = signed_decimal n
printed (Text text) = codes "'" ++ flat_map escaped text ++ codes "'"
printed (Blob blob) = codes "x'" ++ flat_map hexadecimal blob ++ codes "'"

-- Values with a comma and a blank between them.
unfoldable pub listed : List Value → List ℕ
listed [] = []
listed (value ∷ values) = printed value ++ flat_map (λ next. codes ", " ++ printed next) values

-- A row's text: its values in parentheses.
unfoldable pub printed_row : List Value → List ℕ
printed_row row = codes "(" ++ listed row ++ codes ")"
