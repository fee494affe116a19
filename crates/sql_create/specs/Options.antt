-- What follows a table's closing parenthesis ("CREATE TABLE Statement", "Table Options").
use Rattle.std.specs.Prelude.{codes, ℕ, if◌then◌else◌, List, [], ◌∷◌, length, Option, Some, None, Result, Ok, Err}
use Rattle.sql_grammar.specs.declared.code.SchemaCode.{SchemaCode}
use Rattle.sql_grammar.specs.declared.token.Token.{Token}
use Rattle.sql_grammar.specs.Listed.{gathered}
use Rattle.sql_grammar.specs.Pieces.{after_sign, keyword_at, any_word_at, number_at, text_at}
use Rattle.base_values.specs.SchemaRules.Results.{◌>>=◌}
use Rattle.sql_grammar.specs.Reads.{Read}
use Rattle.sql_grammar.specs.Scope.{mismatch}
use Rattle.sql_grammar.specs.Tokens.{is_keyword}
use Rattle.sql_grammar.specs.Versions.{is_auto_increment}
use Rattle.sql_create.specs.declared.options.TableOption.{TableOption}
use Rattle.sql_create.specs.declared.options.TableOption.TheVariants.{Comment, Start, Passed}
use Rattle.sql_create.specs.declared.written.TableOptions.{TableOptions}

-- nothing is written
abbrev pub no_options : TableOptions
no_options = record { comment = []; start = None }

-- a later option counts in place of an earlier one of its sort
abbrev pub with_option : TableOptions → TableOption → TableOptions
with_option options (Comment text) = record options { comment = text }
with_option options (Start number) = record options { start = Some number }
with_option options Passed = options

-- an option that was read and the words after it, or none
abbrev pub Perhaps : Type 0
Perhaps = Result (Option (TableOption × List Token)) SchemaCode

-- = may come before an option's value
abbrev pub unsigned : List Token → Option (List Token) → List Token
unsigned words (Some rest) = rest
unsigned words None = words

unfoldable pub value_words : List Token → List Token
value_words words = unsigned words (after_sign (codes "=") words)

-- any word but a sign, which is passed over
unfoldable pub passed_at : List Token → Perhaps
passed_at words = do
  rest ← any_word_at (value_words words)
  Ok (Some (Passed, rest))

-- SET and any word
unfoldable pub set_at : List Token → Perhaps
set_at words = do
  rest ← keyword_at (codes "SET") words
  passed_at rest

unfoldable pub comment_at : List Token → Perhaps
comment_at words = do
  text ← text_at (value_words words)
  Ok (Some (Comment text.0, text.1))

-- the number at which the AUTO_INCREMENT column starts
unfoldable pub start_at : List Token → Perhaps
start_at words = do
  number ← number_at (value_words words)
  Ok (Some (Start number.0, number.1))

-- CHARSET, CHARACTER SET or COLLATE, with or without DEFAULT in front
unfoldable pub charset_at : List Token → Perhaps
charset_at [] = Ok None
charset_at (word ∷ rest) =
    if is_keyword word (codes "CHARSET") then passed_at rest
    else (if is_keyword word (codes "CHARACTER") then set_at rest
    else (if is_keyword word (codes "COLLATE") then passed_at rest
    else Ok None))

-- after DEFAULT, one of them must come next
abbrev pub needed : List Token → Option (TableOption × List Token) → Perhaps
needed words (Some read) = Ok (Some read)
needed words None = Err (mismatch words)

unfoldable pub default_charset_at : List Token → Perhaps
default_charset_at words = do
  read ← charset_at words
  needed words read

-- The option that the words begin with; none where the first word begins none. All but COMMENT and, from version 2 on,
-- AUTO_INCREMENT are passed over.
unfoldable pub option_at : ℕ → List Token → Perhaps
option_at version [] = Ok None
option_at version (word ∷ rest) =
    if is_keyword word (codes "ENGINE") then passed_at rest
    else (if is_keyword word (codes "COMMENT") then comment_at rest
    else (if is_keyword word (codes "DEFAULT") then default_charset_at rest
    else (if is_auto_increment version word then start_at rest
    else charset_at (word ∷ rest))))

-- what the options at the front say
unfoldable pub options_at : ℕ → List Token → Read TableOptions
options_at version words = gathered (option_at version) with_option (length words) no_options words
