-- Single words at the front of what is left of a text.
use Rattle.std.specs.Prelude.{codes, ℕ, ℤ, if◌then◌else◌, List, [], ◌∷◌, Option, Some, None, Result, Ok, Err}
use Rattle.base_values.specs.declared.value.Value.{Value}
use Rattle.base_values.specs.declared.value.Value.TheVariants.{Null}
use Rattle.sql_words.specs.declared.word.WordClass.{WordClass}
use Rattle.sql_words.specs.declared.word.WordClass.TheVariants as class
use Rattle.sql_words.specs.Meanings.{name_of, text_value, number_value}
use Rattle.sql_grammar.specs.WordValues.ReadBack.{word_value}
use Rattle.sql_grammar.specs.declared.code.SchemaCode.{SchemaCode}
use Rattle.sql_grammar.specs.declared.token.Token.{Token}
use Rattle.sql_grammar.specs.Reads.{Read}
use Rattle.sql_grammar.specs.Scope.{mismatch}
use Rattle.sql_grammar.specs.Tokens.{is_sign, is_keyword, same_sign}

-- what follows this keyword, where it is the first word
unfoldable pub after_keyword : List ℕ → List Token → Option (List Token)
after_keyword keyword [] = None
after_keyword keyword (word ∷ rest) = if is_keyword word keyword then Some rest else None

-- what follows this sign, where it is the first word
unfoldable pub after_sign : List ℕ → List Token → Option (List Token)
after_sign sign [] = None
after_sign sign (word ∷ rest) = if same_sign word sign then Some rest else None

-- what was found at the front of the words; else the first of them doesn't fit
abbrev pub found_at : {A : Type 0} → List Token → Option A → Result A SchemaCode
found_at words (Some found) = Ok found
found_at words None = Err (mismatch words)

unfoldable pub keyword_at : List ℕ → List Token → Result (List Token) SchemaCode
keyword_at keyword words = found_at words (after_keyword keyword words)

unfoldable pub sign_at : List ℕ → List Token → Result (List Token) SchemaCode
sign_at sign words = found_at words (after_sign sign words)

-- what a word stands for, and the words after it
abbrev pub with_rest : {A : Type 0} → List Token → Option A → Option (A × List Token)
with_rest rest (Some value) = Some (value, rest)
with_rest rest None = None

-- a name with or without backquotes, where it is the first word
unfoldable pub after_name : List Token → Option (List ℕ × List Token)
after_name [] = None
after_name (word ∷ rest) = with_rest rest (name_of word.class word.text)

unfoldable pub name_at : List Token → Read (List ℕ)
name_at words = found_at words (after_name words)

-- the number that a word is
abbrev pub number_of : WordClass → List ℕ → Option ℤ
number_of class.Number text = number_value text
number_of class.Name text = None
number_of class.Quoted text = None
number_of class.Text text = None
number_of class.Bytes text = None
number_of class.Sign text = None

unfoldable pub number_at : List Token → Read ℤ
number_at [] = Err (mismatch [])
number_at (word ∷ rest) = found_at (word ∷ rest) (with_rest rest (number_of word.class word.text))

-- the text that a word is
abbrev pub text_of : WordClass → List ℕ → Option (List ℕ)
text_of class.Text text = text_value text
text_of class.Name text = None
text_of class.Quoted text = None
text_of class.Number text = None
text_of class.Bytes text = None
text_of class.Sign text = None

unfoldable pub text_at : List Token → Read (List ℕ)
text_at [] = Err (mismatch [])
text_at (word ∷ rest) = found_at (word ∷ rest) (with_rest rest (text_of word.class word.text))

-- the literal that a word is: NULL, a number, a text or bytes ("Literal Values")
abbrev pub literal_of : Token → Option Value
literal_of word = if is_keyword word (codes "NULL") then Some Null else word_value word.class word.text

unfoldable pub literal_at : List Token → Read Value
literal_at [] = Err (mismatch [])
literal_at (word ∷ rest) = found_at (word ∷ rest) (with_rest rest (literal_of word))

-- what follows any word but a sign, which is passed over
unfoldable pub any_word_at : List Token → Result (List Token) SchemaCode
any_word_at [] = Err (mismatch [])
any_word_at (word ∷ rest) = if is_sign word.class then Err (mismatch (word ∷ rest)) else Ok rest
