-- A column as a clause writes it, and where it is put ("ALTER TABLE Statement").
use Rattle.std.specs.Prelude.{codes, ℕ, if◌then◌else◌, List, [], ◌∷◌, length, Option, Some, None, Result, Ok, Err}
use Rattle.base_values.specs.declared.row_conversion.clause.NewColumn.{NewColumn}
use Rattle.base_values.specs.declared.row_conversion.clause.ColumnPosition.{ColumnPosition}
use Rattle.base_values.specs.declared.row_conversion.clause.ColumnPosition.TheVariants.{Unsaid, First, After}
use Rattle.sql_grammar.specs.declared.attributes.Attribute.{Attribute}
use Rattle.sql_grammar.specs.declared.attributes.Attributes.{Attributes}
use Rattle.sql_grammar.specs.declared.token.Token.{Token}
use Rattle.sql_grammar.specs.Attributes.{unwritten, with_attribute, attribute_at}
use Rattle.sql_grammar.specs.Kinds.{kind_at}
use Rattle.sql_grammar.specs.Listed.{gathered}
use Rattle.sql_grammar.specs.Pieces.{after_keyword, keyword_at, name_at}
use Rattle.base_values.specs.SchemaRules.Results.{◌>>=◌}
use Rattle.sql_grammar.specs.Tokens.{is_keyword}
use Rattle.sql_change.specs.declared.code.AlterCode.{AlterCode}
use Rattle.sql_change.specs.declared.code.AlterCode.TheVariants as codes
use Rattle.sql_alter.specs.Pieces.{Read, in_alter}

-- an attribute that was read and the words after it, or none
abbrev pub Perhaps : Type 0
Perhaps = Result (Option (Attribute × List Token)) AlterCode

-- KEY must come after PRIMARY, and then the clustered key is changed
abbrev pub primary_at : {A : Type 0} → List Token → Result A AlterCode
primary_at words = in_alter (keyword_at (codes "KEY") words) >>= λ rest. Err codes.ClusteredKeyChange

-- An attribute at the front; none where the first word begins none. UNIQUE and PRIMARY KEY are refused where they stand.
unfoldable pub new_attribute_at : ℕ → List Token → Perhaps
new_attribute_at version [] = Ok None
new_attribute_at version (word ∷ rest) =
    if is_keyword word (codes "UNIQUE") then Err codes.AddUnique
    else (if is_keyword word (codes "PRIMARY") then primary_at rest
    else in_alter (attribute_at version (word ∷ rest)))

unfoldable pub new_attributes_at : ℕ → List Token → Read Attributes
new_attributes_at version words = gathered (new_attribute_at version) with_attribute (length words) unwritten words

-- a column: its name, its kind and its attributes
unfoldable pub new_column_at : ℕ → List Token → Read NewColumn
new_column_at version words = do
  name ← in_alter (name_at words)
  kind ← in_alter (kind_at name.1)
  attributes ← new_attributes_at version kind.1
  Ok (record { name = name.0; kind = kind.0; nullable = attributes.0.nullable; default = attributes.0.default; auto = attributes.0.auto }, attributes.1)

abbrev pub after_at : List Token → Read ColumnPosition
after_at words = do
  name ← in_alter (name_at words)
  Ok (After name.0, name.1)

-- FIRST, or AFTER and a column, or nothing
abbrev pub column_position_of : List Token → Option (List Token) → Option (List Token) → Read ColumnPosition
column_position_of words (Some rest) following = Ok (First, rest)
column_position_of words None (Some rest) = after_at rest
column_position_of words None None = Ok (Unsaid, words)

unfoldable pub column_position_at : List Token → Read ColumnPosition
column_position_at words = column_position_of words (after_keyword (codes "FIRST") words) (after_keyword (codes "AFTER") words)
