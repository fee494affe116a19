-- Columns as CREATE TABLE writes them ("CREATE TABLE Statement").
use Rattle.std.specs.Prelude.{codes, ℕ, true, false, if◌then◌else◌, List, [], ◌∷◌, length, Option, Some, None, Result, Ok}
use Rattle.sql_grammar.specs.declared.attributes.Attribute.{Attribute}
use Rattle.sql_grammar.specs.declared.code.SchemaCode.{SchemaCode}
use Rattle.sql_grammar.specs.declared.token.Token.{Token}
use Rattle.sql_grammar.specs.Attributes.{unwritten, with_attribute, attribute_at}
use Rattle.sql_grammar.specs.Kinds.{kind_at}
use Rattle.sql_grammar.specs.Listed.{gathered}
use Rattle.sql_grammar.specs.Pieces.{after_keyword, keyword_at, name_at}
use Rattle.base_values.specs.SchemaRules.Results.{◌>>=◌}
use Rattle.sql_grammar.specs.Reads.{Read}
use Rattle.sql_grammar.specs.Tokens.{is_keyword}
use Rattle.sql_create.specs.declared.written.ColumnAttribute.{ColumnAttribute}
use Rattle.sql_create.specs.declared.written.ColumnAttribute.TheVariants.{Primary, Unique, Plain}
use Rattle.sql_create.specs.declared.written.ColumnAttributes.{ColumnAttributes}
use Rattle.sql_create.specs.declared.written.WrittenColumn.{WrittenColumn}

-- nothing is written
abbrev pub unwritten_column : ColumnAttributes
unwritten_column = record { plain = unwritten; is_primary = false; is_unique = false }

-- PRIMARY KEY and UNIQUE may be written again, and are one key of that sort.
abbrev pub with_column_attribute : ColumnAttributes → ColumnAttribute → ColumnAttributes
with_column_attribute attributes Primary = record attributes { is_primary = true }
with_column_attribute attributes Unique = record attributes { is_unique = true }
with_column_attribute attributes (Plain attribute) = record attributes { plain = with_attribute attributes.plain attribute }

-- an attribute that was read and the words after it, or none
abbrev pub Perhaps : Type 0
Perhaps = Result (Option (ColumnAttribute × List Token)) SchemaCode

-- after PRIMARY, KEY must come next
abbrev pub primary_at : List Token → Perhaps
primary_at words = do
  rest ← keyword_at (codes "KEY") words
  Ok (Some (Primary, rest))

-- after UNIQUE, KEY may come next
abbrev pub unique_after : List Token → Option (List Token) → Option (ColumnAttribute × List Token)
unique_after words (Some rest) = Some (Unique, rest)
unique_after words None = Some (Unique, words)

abbrev pub plain_of : Option (Attribute × List Token) → Option (ColumnAttribute × List Token)
plain_of (Some read) = Some (Plain read.0, read.1)
plain_of None = None

abbrev pub plain_at : ℕ → List Token → Perhaps
plain_at version words = do
  read ← attribute_at version words
  Ok (plain_of read)

-- An attribute at the front; none where the first word begins none.
unfoldable pub column_attribute_at : ℕ → List Token → Perhaps
column_attribute_at version [] = Ok None
column_attribute_at version (word ∷ rest) =
    if is_keyword word (codes "PRIMARY") then primary_at rest
    else (if is_keyword word (codes "UNIQUE") then Ok (unique_after rest (after_keyword (codes "KEY") rest))
    else plain_at version (word ∷ rest))

-- the attributes at the front, in any order
unfoldable pub column_attributes_at : ℕ → List Token → Read ColumnAttributes
column_attributes_at version words = gathered (column_attribute_at version) with_column_attribute (length words) unwritten_column words

-- A column: its name, its kind and its attributes.
unfoldable pub column_at : ℕ → List Token → Read WrittenColumn
column_at version words = do
  name ← name_at words
  kind ← kind_at name.1
  attributes ← column_attributes_at version kind.1
  Ok (record { name = name.0; kind = kind.0; attributes = attributes.0 }, attributes.1)
