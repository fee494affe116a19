-- That what is printed of a value is read as the one word that stands for it.
use Rattle.std.specs.Prelude.{◌≡◌, ℕ, ◌<◌, ◌^◌, List, [], ◌∷◌, Option, Some, None, Ok, codes, unsigned_abs}
use Rattle.std.specs.List.{AllByRecursion}
use Rattle.std.specs.Option.{option_map}
use Rattle.base_values.specs.declared.value.Value.{Value}
use Rattle.base_values.specs.declared.value.Value.TheVariants.{Null, Num, Text, Blob}
use Rattle.base_values.specs.Literals.{printed}
use Rattle.sql_words.specs.declared.word.WordClass.{WordClass}
use Rattle.sql_words.specs.declared.word.WordClass.TheVariants as class
use Rattle.sql_words.specs.Meanings.{text_value, bytes_value, number_value}
use Rattle.sql_words.specs.Readings.{words_of}

-- What a word stands for as a literal, where it is a text, bytes or a number (MySQL 8.0 manual, "String Literals", "Hexadecimal Literals", "Numeric Literals").
abbrev pub word_value : WordClass → List ℕ → Option Value
word_value class.Text bytes = option_map Text (text_value bytes)
word_value class.Bytes bytes = option_map Blob (bytes_value bytes)
word_value class.Number bytes = option_map Num (number_value bytes)
word_value class.Name bytes = None
word_value class.Quoted bytes = None
word_value class.Sign bytes = None

-- What is printed of the value is one word, which stands for the value.
abbrev pub ReadsBack : Value → Type 0
ReadsBack value =
    (kind : WordClass)
    × (words_of (printed value) ≡ Ok (record { class = kind; text = printed value; place = 0 } ∷ []))
    × (word_value kind (printed value) ≡ Some value)

-- A null is printed as the name NULL ("NULL Values").
abbrev pub NullIsName : Type 0
NullIsName = words_of (printed Null) ≡ Ok (record { class = class.Name; text = codes "NULL"; place = 0 } ∷ [])

-- A literal: a text, bytes, or a number of at most 38 digits. (A null is none of these.)
abbrev pub IsLiteral : Value → Type 0
IsLiteral Null = ⊥
IsLiteral (Num number) = unsigned_abs number < 10 ^ 38
IsLiteral (Text text) = Unit {0}
IsLiteral (Blob blob) = AllByRecursion (λ byte. byte < 256) blob
