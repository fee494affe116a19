-- What a word stands for, by its bytes. Each is None where the bytes are no one such word.
use Rattle.std.specs.Prelude.{◌≡◌, ℕ, ℤ, pos, neg_ℤ, ◌+◌, ◌<◌, ◌≤◌, ◌-◌, Bool, true, false, ◌&&◌, ◌==◌, nat_le, if◌then◌else◌, List, length, take, drop, slice_index, Option, Some, None}
use Rattle.std.specs.Str.{all_ascii_digits}
use Rattle.std.specs.Str.Parse.{digits_value}
use Rattle.sql_words.specs.declared.word.WordClass.{WordClass}
use Rattle.sql_words.specs.declared.word.WordClass.TheVariants.{Name, Quoted, Number, Text, Bytes, Sign}
use Rattle.sql_words.specs.Characters.{is_quote}
use Rattle.sql_words.specs.Quoted.{length_of, value_of, text_inside, bytes_inside, name_inside}
use Rattle.sql_words.specs.Front.{begins_bytes, begins_number, sign_width, digit_count, most_digits}

-- a length that is there takes all of the bytes
abbrev pub is_all : Option ℕ → List ℕ → Bool
is_all None bytes = false
is_all (Some n) bytes = n == length bytes

-- the bytes are one text
abbrev pub is_text : List ℕ → Bool
is_text bytes = is_quote (slice_index bytes 0) && is_all (length_of (text_inside (slice_index bytes 0) (drop 1 bytes))) (drop 1 bytes)

-- what a text stands for, in UTF-8 ("String Literals")
abbrev pub text_value : List ℕ → Option (List ℕ)
text_value bytes = if is_text bytes then value_of (text_inside (slice_index bytes 0) (drop 1 bytes)) else None

-- what is between a text's quotes, as it is written: with its escapes and doubled quotes
abbrev pub written_text : List ℕ → Option (List ℕ)
written_text bytes = if is_text bytes then Some (take (length bytes - 2) (drop 1 bytes)) else None

-- the bytes are x'..' or X'..'
abbrev pub is_bytes : List ℕ → Bool
is_bytes bytes = begins_bytes bytes && is_all (length_of (bytes_inside (drop 2 bytes))) (drop 2 bytes)

-- what they stand for ("Hexadecimal Literals")
abbrev pub bytes_value : List ℕ → Option (List ℕ)
bytes_value bytes = if is_bytes bytes then value_of (bytes_inside (drop 2 bytes)) else None

-- the digits between the quotes of x'..'
abbrev pub written_bytes : List ℕ → Option (List ℕ)
written_bytes bytes = if is_bytes bytes then Some (take (length bytes - 3) (drop 2 bytes)) else None

-- the bytes are a sign and 1 to 38 digits, or these digits alone
abbrev pub is_number : List ℕ → Bool
is_number bytes = begins_number bytes && nat_le (digit_count bytes) most_digits && sign_width bytes + digit_count bytes == length bytes

-- the number that the digits spell, below 0 after a dash
abbrev pub signed : List ℕ → ℤ
signed bytes =
    let digits = digits_value 10 (drop (sign_width bytes) bytes) in
    if slice_index bytes 0 == 45 then neg_ℤ (pos digits) else pos digits

-- what a number stands for ("Numeric Literals")
abbrev pub number_value : List ℕ → Option ℤ
number_value bytes = if is_number bytes then Some (signed bytes) else None

-- 1 to 38 digits, and nothing else
pub record AreDigits (digits : List ℕ) : Type 0 where
  pub all : all_ascii_digits digits ≡ true
  pub some : 0 < length digits
  pub few : length digits ≤ most_digits

-- the bytes are one name in backquotes
abbrev pub is_quoted_name : List ℕ → Bool
is_quoted_name bytes = slice_index bytes 0 == 96 && is_all (length_of (name_inside (drop 1 bytes))) (drop 1 bytes)

-- the name between the backquotes ("Schema Object Names")
abbrev pub quoted_name : List ℕ → Option (List ℕ)
quoted_name bytes = if is_quoted_name bytes then value_of (name_inside (drop 1 bytes)) else None

-- the name that a word is
abbrev pub name_of : WordClass → List ℕ → Option (List ℕ)
name_of Name bytes = Some bytes
name_of Quoted bytes = quoted_name bytes
name_of Number bytes = None
name_of Text bytes = None
name_of Bytes bytes = None
name_of Sign bytes = None
