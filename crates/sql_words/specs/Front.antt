-- What is at the front of a rest of a text.
use Rattle.std.specs.Prelude.{ℕ, ◌+◌, Bool, ◌&&◌, ◌||◌, not, ◌==◌, nat_eq, nat_lt, codes, if◌then◌else◌, List, drop, slice_index, Option, Some, None, Result, Ok, Err}
use Rattle.std.specs.Option.{option_map}
use Rattle.std.specs.List.{prefix_len, starts_with}
use Rattle.std.specs.Char.{is_ascii_digit}
use Rattle.sql_words.specs.declared.word.WordClass.{WordClass}
use Rattle.sql_words.specs.declared.word.WordClass.TheVariants as class
use Rattle.sql_words.specs.declared.word.WordFault.{WordFault}
use Rattle.sql_words.specs.declared.word.WordFault.TheVariants.{Unclosed, Odd, TooLong}
use Rattle.sql_words.specs.declared.front.Front.{Front}
use Rattle.sql_words.specs.declared.front.Front.TheVariants.{Gap, Found}
use Rattle.sql_words.specs.Characters.{is_white, is_line_end, is_name_start, is_name_byte, is_plus_or_minus, is_quote, is_angle, is_sign}
use Rattle.sql_words.specs.Quoted.{length_of, text_inside, bytes_inside, name_inside}

-- how many bytes it has
abbrev pub size_of : Front → ℕ
size_of (Gap n) = n
size_of (Found kind n) = n

-- how many bytes come before the line's end, or the text's
abbrev pub line_length : List ℕ → ℕ
line_length bytes = prefix_len (λ b. not (is_line_end b)) bytes

-- a comment begins with # or with two dashes and a blank ("Comments")
abbrev pub begins_comment : List ℕ → Bool
begins_comment bytes = slice_index bytes 0 == 35 || starts_with nat_eq bytes (codes "-- ")

-- bytes begin with x' or X' ("Hexadecimal Literals")
abbrev pub begins_bytes : List ℕ → Bool
begins_bytes bytes = starts_with nat_eq bytes (codes "x'") || starts_with nat_eq bytes (codes "X'")

-- the length of the bytes x'..' at the front, where they are there
abbrev pub bytes_length : List ℕ → Option ℕ
bytes_length bytes = if begins_bytes bytes then option_map (λ n. 2 + n) (length_of (bytes_inside (drop 2 bytes))) else None

-- an unquoted name, where no bytes are at the front
abbrev pub bytes_or_name : Option ℕ → ℕ → Front
bytes_or_name (Some n) name = Found class.Bytes n
bytes_or_name None name = Found class.Name name

-- how many bytes an unquoted name has
abbrev pub name_length : List ℕ → ℕ
name_length bytes = prefix_len is_name_byte bytes

-- a quoted word, by its length after the opening quote
abbrev pub quoted : ℕ → WordClass → Option ℕ → Result Front WordFault
quoted place kind None = Err (Unclosed place)
quoted place kind (Some n) = Ok (Found kind (1 + n))

-- how many digits a number may have (this project's rule)
abbrev pub most_digits : ℕ
most_digits = 38

-- how many bytes the sign of a number has
abbrev pub sign_width : List ℕ → ℕ
sign_width bytes = if is_plus_or_minus (slice_index bytes 0) then 1 else 0

-- a number begins with a digit, or with + or - and a digit
abbrev pub begins_number : List ℕ → Bool
begins_number bytes = is_ascii_digit (slice_index bytes (sign_width bytes))

-- how many digits come after the sign
abbrev pub digit_count : List ℕ → ℕ
digit_count bytes = prefix_len is_ascii_digit (drop (sign_width bytes) bytes)

-- a number, unless it has too many digits
abbrev pub number : ℕ → List ℕ → Result Front WordFault
number place bytes =
    if nat_lt most_digits (digit_count bytes) then Err (TooLong place)
    else Ok (Found class.Number (sign_width bytes + digit_count bytes))

-- <= and >= are one sign
abbrev pub sign_length : List ℕ → ℕ
sign_length bytes = if is_angle (slice_index bytes 0) && slice_index bytes 1 == 61 then 2 else 1

-- What is at the front of bytes that begin at this place of the text. (No byte is read as NUL, which begins nothing.)
unfoldable pub front_at : ℕ → List ℕ → Result Front WordFault
front_at place bytes =
    let first = slice_index bytes 0 in
    if is_white first then Ok (Gap 1)
    else (if begins_comment bytes then Ok (Gap (line_length bytes))
    else (if is_name_start first then Ok (bytes_or_name (bytes_length bytes) (name_length bytes))
    else (if begins_number bytes then number place bytes
    else (if is_quote first then quoted place class.Text (length_of (text_inside first (drop 1 bytes)))
    else (if first == 96 then quoted place class.Quoted (length_of (name_inside (drop 1 bytes)))
    else (if is_sign first then Ok (Found class.Sign (sign_length bytes))
    else Err (Odd place)))))))
