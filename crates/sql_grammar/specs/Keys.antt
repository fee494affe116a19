-- The columns of a key as they are written.
use Rattle.std.specs.Prelude.{codes, ℕ, Bool, true, false, if◌then◌else◌, List, [], ◌∷◌, length, Option, Some, None, Ok, Err}
use Rattle.sql_words.specs.declared.word.WordClass.{WordClass}
use Rattle.sql_words.specs.declared.word.WordClass.TheVariants as class
use Rattle.sql_grammar.specs.declared.code.SchemaCode.{SchemaCode}
use Rattle.sql_grammar.specs.declared.code.SchemaCode.TheVariants.{Syntax, Scope}
use Rattle.sql_grammar.specs.declared.keys.KeyText.{KeyText}
use Rattle.sql_grammar.specs.declared.token.Token.{Token}
use Rattle.sql_grammar.specs.Listed.{listed}
use Rattle.sql_grammar.specs.Pieces.{after_keyword, after_sign, sign_at, name_at}
use Rattle.base_values.specs.SchemaRules.Results.{◌>>=◌}
use Rattle.sql_grammar.specs.Reads.{Read}
use Rattle.sql_grammar.specs.Scope.{mismatch}

-- a number at the front
abbrev pub is_number : WordClass → Bool
is_number class.Number = true
is_number class.Name = false
is_number class.Quoted = false
is_number class.Text = false
is_number class.Bytes = false
is_number class.Sign = false

abbrev pub begins_number : List Token → Bool
begins_number [] = false
begins_number (word ∷ rest) = is_number word.class

-- An opening parenthesis and a number are the length of a prefix, which this program doesn't take.
abbrev pub prefix_or : SchemaCode → Option (List Token) → SchemaCode
prefix_or other None = other
prefix_or other (Some rest) = if begins_number rest then Scope else other

-- DESC neither
abbrev pub descending_or : SchemaCode → Option (List Token) → SchemaCode
descending_or other None = other
descending_or other (Some rest) = Scope

-- What a key is refused with where these words come after one of its columns.
unfoldable pub key_mismatch : List Token → SchemaCode
key_mismatch words = descending_or (prefix_or (mismatch words) (after_sign (codes "(") words)) (after_keyword (codes "DESC") words)

-- the key's closing parenthesis
abbrev pub closed : List (List ℕ) → List Token → Option (List Token) → Read (List (List ℕ))
closed names words None = Err (key_mismatch words)
closed names words (Some rest) = Ok (names, rest)

-- names with commas between them, at least one
unfoldable pub names_at : List Token → Read (List (List ℕ))
names_at words = listed name_at Syntax (length words) words

-- The names of a key's columns in parentheses ("CREATE INDEX Statement").
unfoldable pub key_columns_at : List Token → Read (List (List ℕ))
key_columns_at words = do
  rest ← sign_at (codes "(") words
  names ← names_at rest
  closed names.0 names.1 (after_sign (codes ")") names.1)

-- nothing where the parenthesis is there, else the key's name
abbrev pub key_name : List Token → Option (List Token) → Read (Option (List ℕ))
key_name words (Some rest) = Ok (None, words)
key_name words None = do
  name ← name_at words
  Ok (Some name.0, name.1)

unfoldable pub key_name_at : List Token → Read (Option (List ℕ))
key_name_at words = key_name words (after_sign (codes "(") words)

-- A key's name, where one is written, and its columns.
unfoldable pub key_at : List Token → Read KeyText
key_at words = do
  name ← key_name_at words
  columns ← key_columns_at name.1
  Ok (record { name = name.0; columns = columns.0 }, columns.1)
