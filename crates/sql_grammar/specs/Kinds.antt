-- The kinds of columns as they are written.
use Rattle.std.specs.Prelude.{codes, ℕ, ℤ, pos, int_le, unsigned_abs, true, false, ◌&&◌, ◌||◌, if◌then◌else◌, List, [], ◌∷◌, Option, Some, None, Result, Ok, Err}
use Rattle.base_values.specs.declared.kind.Kind.{Kind}
use Rattle.base_values.specs.declared.kind.Kind.TheVariants.{Int, VarChar, VarBinary}
use Rattle.sql_grammar.specs.declared.code.SchemaCode.{SchemaCode}
use Rattle.sql_grammar.specs.declared.code.SchemaCode.TheVariants.{Scope}
use Rattle.sql_grammar.specs.declared.kinds.KindWord.{KindWord}
use Rattle.sql_grammar.specs.declared.kinds.KindWord.TheVariants as words
use Rattle.sql_grammar.specs.declared.token.Token.{Token}
use Rattle.sql_grammar.specs.Pieces.{after_keyword, after_sign, sign_at, number_at}
use Rattle.base_values.specs.SchemaRules.Results.{◌>>=◌}
use Rattle.sql_grammar.specs.Reads.{Read}
use Rattle.sql_grammar.specs.Scope.{mismatch}
use Rattle.sql_grammar.specs.Tokens.{is_keyword}

-- An integer kind's name gives its bytes ("Integer Types (Exact Value)").
unfoldable pub kind_word : Token → Option KindWord
kind_word word =
    if is_keyword word (codes "TINYINT") then Some (words.Integer 1)
    else (if is_keyword word (codes "SMALLINT") then Some (words.Integer 2)
    else (if is_keyword word (codes "MEDIUMINT") then Some (words.Integer 3)
    else (if is_keyword word (codes "INT") || is_keyword word (codes "INTEGER") then Some (words.Integer 4)
    else (if is_keyword word (codes "BIGINT") then Some (words.Integer 8)
    else (if is_keyword word (codes "VARCHAR") then Some words.VarChar
    else (if is_keyword word (codes "VARBINARY") then Some words.VarBinary
    else None))))))

-- a number in parentheses, where an opening one is there, is passed over
abbrev pub width_after : List Token → Option (List Token) → Result (List Token) SchemaCode
width_after words None = Ok words
width_after words (Some rest) = do
  number ← number_at rest
  sign_at (codes ")") number.1

-- A display width is passed over ("Numeric Type Attributes").
unfoldable pub width_at : List Token → Result (List Token) SchemaCode
width_at words = width_after words (after_sign (codes "(") words)

-- the integer kind, which is UNSIGNED where that word is there
abbrev pub signed_kind : ℕ → List Token → Option (List Token) → Kind × List Token
signed_kind bytes words None = (Int bytes false, words)
signed_kind bytes words (Some rest) = (Int bytes true, rest)

-- a length from 1 to 1,000 (this project's rule)
abbrev pub length_of : ℤ → Option ℕ
length_of number = if int_le (pos 1) number && int_le number (pos 1000) then Some (unsigned_abs number) else None

-- a length that is out of its range is out of this program's scope
abbrev pub length_within : List Token → Option ℕ → Read ℕ
length_within rest (Some length) = Ok (length, rest)
length_within rest None = Err Scope

-- a length in parentheses ("The CHAR and VARCHAR Types")
unfoldable pub length_at : List Token → Read ℕ
length_at words = do
  rest ← sign_at (codes "(") words
  number ← number_at rest
  length ← length_within number.1 (length_of number.0)
  rest ← sign_at (codes ")") length.1
  Ok (length.0, rest)

-- what follows the kind's word
unfoldable pub kind_after : KindWord → List Token → Read Kind
kind_after (words.Integer bytes) rest = do
  rest ← width_at rest
  Ok (signed_kind bytes rest (after_keyword (codes "UNSIGNED") rest))
kind_after words.VarChar rest = do
  length ← length_at rest
  Ok (VarChar length.0, length.1)
kind_after words.VarBinary rest = do
  length ← length_at rest
  Ok (VarBinary length.0, length.1)

abbrev pub kind_of : List Token → List Token → Option KindWord → Read Kind
kind_of words rest (Some kind) = kind_after kind rest
kind_of words rest None = Err (mismatch words)

-- A kind: an integer kind with or without a display width and UNSIGNED, or VARCHAR or VARBINARY with a length ("Data Types").
unfoldable pub kind_at : List Token → Read Kind
kind_at [] = Err (mismatch [])
kind_at (word ∷ rest) = kind_of (word ∷ rest) rest (kind_word word)
