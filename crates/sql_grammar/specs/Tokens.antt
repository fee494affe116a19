-- The words of a text up to its first fault, and how they are distinguished.
use Rattle.std.specs.Prelude.{ℕ, Bool, true, false, ◌&&◌, List, [], take, map, Result, Ok, Err}
use Rattle.std.specs.Str.{bytes_eq}
use Rattle.sql_words.specs.declared.word.WordClass.{WordClass}
use Rattle.sql_words.specs.declared.word.WordClass.TheVariants.{Name, Quoted, Number, Text, Bytes, Sign}
use Rattle.sql_words.specs.declared.word.WordFault.{WordFault}
use Rattle.sql_words.specs.declared.word.WordFault.TheVariants.{Unclosed, Odd, TooLong, Memory}
use Rattle.sql_words.specs.Readings.{Reading, words_of}
use Rattle.base_values.specs.GhoSchema.Names.{same_name}
use Rattle.sql_grammar.specs.declared.token.Token.{Token}
use Rattle.sql_grammar.specs.declared.tokens.TextWords.{TextWords}

-- a name without backquotes
abbrev pub is_unquoted : WordClass → Bool
is_unquoted Name = true
is_unquoted Quoted = false
is_unquoted Number = false
is_unquoted Text = false
is_unquoted Bytes = false
is_unquoted Sign = false

-- a sign
abbrev pub is_sign : WordClass → Bool
is_sign Name = false
is_sign Quoted = false
is_sign Number = false
is_sign Text = false
is_sign Bytes = false
is_sign Sign = true

-- The word is this keyword: a name without backquotes, whatever the case of letters (MySQL's manual, "Keywords and Reserved Words").
unfoldable pub is_keyword : Token → List ℕ → Bool
is_keyword word keyword = is_unquoted word.class && same_name word.text keyword

-- the word is this sign
unfoldable pub same_sign : Token → List ℕ → Bool
same_sign word sign = is_sign word.class && bytes_eq word.text sign

-- a word without its place
abbrev pub token_of : Reading → Token
token_of word = record { class = word.class; text = word.text }

-- the words of a text that has no fault
abbrev pub words_or_none : Result (List Reading) WordFault → List Token
words_or_none (Ok words) = map token_of words
words_or_none (Err fault) = []

-- the words before this place, where the first fault is
abbrev pub cut_at : ℕ → List ℕ → TextWords
cut_at place text = record { words = words_or_none (words_of (take place text)); is_faulty = true }

-- All words of a text, or where it has a fault, those that come before the first. (Running out of memory is no fault of a
-- text.)
abbrev pub words_to : List ℕ → Result (List Reading) WordFault → TextWords
words_to text (Ok words) = record { words = map token_of words; is_faulty = false }
words_to text (Err (Unclosed place)) = cut_at place text
words_to text (Err (Odd place)) = cut_at place text
words_to text (Err (TooLong place)) = cut_at place text
words_to text (Err Memory) = cut_at 0 text

unfoldable pub text_words : List ℕ → TextWords
text_words text = words_to text (words_of text)
