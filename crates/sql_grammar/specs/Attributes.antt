-- What follows a column's kind, but for its keys ("CREATE TABLE Statement").
use Rattle.std.specs.Prelude.{codes, ℕ, true, false, if◌then◌else◌, List, [], ◌∷◌, Option, Some, None, Result, Ok}
use Rattle.sql_grammar.specs.declared.attributes.Attribute.{Attribute}
use Rattle.sql_grammar.specs.declared.attributes.Attribute.TheVariants.{Nullable, Default, AutoIncrement, Passed}
use Rattle.sql_grammar.specs.declared.attributes.Attributes.{Attributes}
use Rattle.sql_grammar.specs.declared.code.SchemaCode.{SchemaCode}
use Rattle.sql_grammar.specs.declared.token.Token.{Token}
use Rattle.sql_grammar.specs.Pieces.{keyword_at, any_word_at, literal_at, text_at}
use Rattle.base_values.specs.SchemaRules.Results.{◌>>=◌}
use Rattle.sql_grammar.specs.Tokens.{is_keyword}
use Rattle.sql_grammar.specs.Versions.{is_auto_increment}

-- nothing is written
abbrev pub unwritten : Attributes
unwritten = record { nullable = None; default = None; auto = false }

-- Each attribute may be written again, and the last one counts.
abbrev pub with_attribute : Attributes → Attribute → Attributes
with_attribute attributes (Nullable nullable) = record attributes { nullable = Some nullable }
with_attribute attributes (Default value) = record attributes { default = Some value }
with_attribute attributes AutoIncrement = record attributes { auto = true }
with_attribute attributes Passed = attributes

-- an attribute that was read and the words after it, or none
abbrev pub Perhaps : Type 0
Perhaps = Result (Option (Attribute × List Token)) SchemaCode

-- after NOT, NULL must come next
abbrev pub not_null_at : List Token → Perhaps
not_null_at words = do
  rest ← keyword_at (codes "NULL") words
  Ok (Some (Nullable false, rest))

-- after DEFAULT, a literal
abbrev pub default_at : List Token → Perhaps
default_at words = do
  value ← literal_at words
  Ok (Some (Default value.0, value.1))

-- after COMMENT, a text, which is passed over
abbrev pub comment_at : List Token → Perhaps
comment_at words = do
  text ← text_at words
  Ok (Some (Passed, text.1))

-- after CHARACTER, SET and any word, which are passed over
abbrev pub character_set_at : List Token → Perhaps
character_set_at words = do
  rest ← keyword_at (codes "SET") words
  rest ← any_word_at rest
  Ok (Some (Passed, rest))

-- after COLLATE, any word, which is passed over
abbrev pub collation_at : List Token → Perhaps
collation_at words = do
  rest ← any_word_at words
  Ok (Some (Passed, rest))

-- An attribute at the front that is passed over; none where the first word begins none.
unfoldable pub passed_at : List Token → Perhaps
passed_at [] = Ok None
passed_at (word ∷ rest) =
    if is_keyword word (codes "COMMENT") then comment_at rest
    else (if is_keyword word (codes "CHARACTER") then character_set_at rest
    else (if is_keyword word (codes "COLLATE") then collation_at rest
    else Ok None))

-- An attribute at the front; none where the first word begins none. AUTO_INCREMENT is one from version 2 on.
unfoldable pub attribute_at : ℕ → List Token → Perhaps
attribute_at version [] = Ok None
attribute_at version (word ∷ rest) =
    if is_keyword word (codes "NOT") then not_null_at rest
    else (if is_keyword word (codes "NULL") then Ok (Some (Nullable true, rest))
    else (if is_keyword word (codes "DEFAULT") then default_at rest
    else (if is_auto_increment version word then Ok (Some (AutoIncrement, rest))
    else passed_at (word ∷ rest))))
