-- What a column stores of a value, and what a condition seeks in it.
-- Ranges and lengths are those of MySQL's manual: "Integer Types (Exact Value)", "The CHAR and VARCHAR Types", "The BINARY and VARBINARY Types".
-- Which values a column converts, and the number of each refusal, is this project's rule.
use Rattle.std.specs.Prelude.{ℕ, ◌-◌, ◌*◌, ◌^◌, ℤ, pos, neg_ℤ, int_le, Bool, true, false, ◌&&◌, ◌||◌, if◌then◌else◌, ◌==◌, nat_lt, nat_le, List, [], ◌∷◌, length, count_by, Option, Some, None, Result, Ok, Err}
use Rattle.std.specs.Char.{is_ascii_digit}
use Rattle.std.specs.Fmt.{signed_decimal}
use Rattle.std.specs.List.{list_all}
use Rattle.std.specs.Option.{option_map}
use Rattle.std.specs.Str.Parse.{digits_value}
use Rattle.base_values.specs.declared.kind.Kind.{Kind}
use Rattle.base_values.specs.declared.kind.Kind.TheVariants.{Int, VarChar, VarBinary}
use Rattle.base_values.specs.declared.value.Value.{Value}
use Rattle.base_values.specs.declared.value.Value.TheVariants.{Null, Num, Text, Blob}
use Rattle.base_values.specs.declared.unfit.Unfit.{Unfit}
use Rattle.base_values.specs.declared.unfit.Unfit.TheVariants as unfit
use Rattle.base_values.specs.declared.mysql_errors.TheConstants.{ER_BAD_NULL_ERROR, ER_WARN_DATA_OUT_OF_RANGE, ER_DATA_TOO_LONG, ER_TRUNCATED_WRONG_VALUE_FOR_FIELD}

-- MySQL's error of a refusal (its manual, "Server Error Message Reference").
abbrev pub error_number : Unfit → ℕ
error_number unfit.Null = ER_BAD_NULL_ERROR
error_number unfit.Range = ER_WARN_DATA_OUT_OF_RANGE
error_number unfit.Length = ER_DATA_TOO_LONG
error_number unfit.Kind = ER_TRUNCATED_WRONG_VALUE_FOR_FIELD

-- How many numbers a signed kind has below 0, by its bytes: TINYINT, SMALLINT, MEDIUMINT, INT, BIGINT ("Integer Types (Exact Value)"). MySQL has no kind of other bytes; it is read as BIGINT.
unfoldable pub half : ℕ → ℕ
half bytes = if bytes == 1 then 2 ^ 7 else (if bytes == 2 then 2 ^ 15 else (if bytes == 3 then 2 ^ 23 else (if bytes == 4 then 2 ^ 31 else 2 ^ 63)))

-- The least number of an integer kind, by its bytes and whether it is UNSIGNED.
abbrev pub lowest : ℕ → Bool → ℤ
lowest bytes true = pos 0
lowest bytes false = neg_ℤ (pos (half bytes))

-- The greatest number of an integer kind.
abbrev pub highest : ℕ → Bool → ℤ
highest bytes true = pos (2 * half bytes - 1)
highest bytes false = pos (half bytes - 1)

-- The number that 1 to 38 digits spell; leading zeros count among them. This project's rule.
abbrev pub digits_number : List ℕ → Option ℕ
digits_number digits = if list_all is_ascii_digit digits && (nat_lt 0 (length digits) && nat_le (length digits) 38) then Some (digits_value 10 digits) else None

-- The number that a text is: 1 to 38 digits after at most one sign, `-` (45) or `+` (43), and nothing else. This project's
-- rule.
unfoldable pub text_number : List ℕ → Option ℤ
text_number [] = None
text_number (c ∷ text) = if c == 45 then option_map (λ n. neg_ℤ (pos n)) (digits_number text) else option_map pos (digits_number (if c == 43 then text else c ∷ text))

-- How many characters a UTF-8 text has: each byte but 128 to 191 begins one.
unfoldable pub character_count : List ℕ → ℕ
character_count text = count_by (λ byte. nat_lt byte 128 || nat_le 192 byte) text

-- The number where it is in the kind's range, else ER_WARN_DATA_OUT_OF_RANGE.
unfoldable pub in_range : ℕ → Bool → ℤ → Result Value Unfit
in_range bytes unsigned n = if int_le (lowest bytes unsigned) n && int_le n (highest bytes unsigned) then Ok (Num n) else Err unfit.Range

-- The text where it has at most this many characters, else ER_DATA_TOO_LONG.
unfoldable pub text_within : ℕ → List ℕ → Result Value Unfit
text_within limit text = if nat_le (character_count text) limit then Ok (Text text) else Err unfit.Length

-- The bytes where they are at most this many, else ER_DATA_TOO_LONG.
unfoldable pub bytes_within : ℕ → List ℕ → Result Value Unfit
bytes_within limit bytes = if nat_le (length bytes) limit then Ok (Blob bytes) else Err unfit.Length

-- A text as a number: what is made of the number, or ER_TRUNCATED_WRONG_VALUE_FOR_FIELD where the text is none.
abbrev pub as_number : (ℤ → Result Value Unfit) → Option ℤ → Result Value Unfit
as_number made None = Err unfit.Kind
as_number made (Some n) = made n

-- What a column of the kind stores of the value, or why it refuses it; `nullable` says whether it may be null.
unfoldable pub stores : Value → Kind → Bool → Result Value Unfit
stores Null kind nullable = if nullable then Ok Null else Err unfit.Null
stores (Num n) (Int bytes unsigned) nullable = in_range bytes unsigned n
stores (Text text) (Int bytes unsigned) nullable = as_number (in_range bytes unsigned) (text_number text)
stores (Blob blob) (Int bytes unsigned) nullable = Err unfit.Kind
stores (Num n) (VarChar limit) nullable = text_within limit (signed_decimal n)
stores (Text text) (VarChar limit) nullable = text_within limit text
stores (Blob blob) (VarChar limit) nullable = Err unfit.Kind
stores (Num n) (VarBinary limit) nullable = bytes_within limit (signed_decimal n)
stores (Text text) (VarBinary limit) nullable = bytes_within limit text
stores (Blob blob) (VarBinary limit) nullable = bytes_within limit blob

-- What a condition compares with a column of the kind, for a literal: what is stored, whatever its range or length. A null is refused.
unfoldable pub seeks : Value → Kind → Result Value Unfit
seeks Null kind = Err unfit.Kind
seeks (Num n) (Int bytes unsigned) = Ok (Num n)
seeks (Text text) (Int bytes unsigned) = as_number (λ n. Ok (Num n)) (text_number text)
seeks (Blob blob) (Int bytes unsigned) = Err unfit.Kind
seeks (Num n) (VarChar limit) = Ok (Text (signed_decimal n))
seeks (Text text) (VarChar limit) = Ok (Text text)
seeks (Blob blob) (VarChar limit) = Err unfit.Kind
seeks (Num n) (VarBinary limit) = Ok (Blob (signed_decimal n))
seeks (Text text) (VarBinary limit) = Ok (Blob text)
seeks (Blob blob) (VarBinary limit) = Ok (Blob blob)

-- The value is one of the kind, in its range or its length; a null is one of each.
unfoldable pub fits : Value → Kind → Bool
fits Null kind = true
fits (Num n) (Int bytes unsigned) = int_le (lowest bytes unsigned) n && int_le n (highest bytes unsigned)
fits (Text text) (VarChar limit) = nat_le (character_count text) limit
fits (Blob blob) (VarBinary limit) = nat_le (length blob) limit
fits value kind = false

-- The value is of the kind, whatever its range or length, and no null.
abbrev pub IsOfKind : Value → Kind → Type 0
IsOfKind (Num n) (Int bytes unsigned) = Unit {0}
IsOfKind (Text text) (VarChar limit) = Unit {0}
IsOfKind (Blob blob) (VarBinary limit) = Unit {0}
IsOfKind value kind = ⊥

-- A key's values are of the kinds, column by column.
abbrev pub AreOfKinds : List Value → List Kind → Type 0
AreOfKinds [] [] = Unit {0}
AreOfKinds (value ∷ key) (kind ∷ kinds) = IsOfKind value kind × AreOfKinds key kinds
AreOfKinds key kinds = ⊥
