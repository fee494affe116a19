-- Words of MySQL's CREATE TABLE that this program knows and doesn't take, and what a word that doesn't fit is refused with.
use Rattle.std.specs.Prelude.{codes, ℕ, Bool, not, ◌&&◌, ◌||◌, if◌then◌else◌, List, [], ◌∷◌}
use Rattle.base_values.specs.GhoSchema.Names.{is_one_of}
use Rattle.sql_grammar.specs.declared.code.SchemaCode.{SchemaCode}
use Rattle.sql_grammar.specs.declared.code.SchemaCode.TheVariants.{Syntax, Scope, AutoIncrement}
use Rattle.sql_grammar.specs.declared.token.Token.{Token}
use Rattle.sql_grammar.specs.Tokens.{is_unquoted, is_keyword}
use Rattle.sql_grammar.specs.Versions.{has_counters}

-- what begins a constraint or a part of a column that isn't taken ("CREATE TABLE Statement")
abbrev pub is_constraint : List ℕ → Bool
is_constraint = is_one_of (codes "FOREIGN" ∷ codes "REFERENCES" ∷ codes "CHECK" ∷ codes "GENERATED" ∷ codes "AS" ∷ [])

-- other parts of a table that aren't taken
abbrev pub is_extension : List ℕ → Bool
is_extension = is_one_of (codes "PARTITION" ∷ codes "FULLTEXT" ∷ codes "SPATIAL" ∷ [])

-- the kinds of the manual's "Data Types" that this program doesn't have, and their synonyms
abbrev pub is_fraction_kind : List ℕ → Bool
is_fraction_kind = is_one_of (codes "FLOAT" ∷ codes "DOUBLE" ∷ codes "REAL" ∷ codes "DECIMAL" ∷ codes "NUMERIC" ∷ codes "DEC" ∷ codes "FIXED" ∷ codes "FLOAT4" ∷ codes "FLOAT8" ∷ [])

abbrev pub is_time_kind : List ℕ → Bool
is_time_kind = is_one_of (codes "DATE" ∷ codes "TIME" ∷ codes "DATETIME" ∷ codes "TIMESTAMP" ∷ codes "YEAR" ∷ [])

abbrev pub is_character_kind : List ℕ → Bool
is_character_kind = is_one_of (codes "CHAR" ∷ codes "CHARACTER" ∷ codes "NCHAR" ∷ codes "NATIONAL" ∷ codes "NVARCHAR" ∷ codes "VARCHARACTER" ∷ [])

abbrev pub is_long_kind : List ℕ → Bool
is_long_kind = is_one_of (codes "BINARY" ∷ codes "LONG" ∷ [])

abbrev pub is_text_kind : List ℕ → Bool
is_text_kind = is_one_of (codes "TEXT" ∷ codes "TINYTEXT" ∷ codes "MEDIUMTEXT" ∷ codes "LONGTEXT" ∷ codes "BLOB" ∷ codes "TINYBLOB" ∷ codes "MEDIUMBLOB" ∷ codes "LONGBLOB" ∷ [])

abbrev pub is_choice_kind : List ℕ → Bool
is_choice_kind = is_one_of (codes "ENUM" ∷ codes "SET" ∷ codes "BIT" ∷ codes "BOOL" ∷ codes "BOOLEAN" ∷ codes "JSON" ∷ codes "SERIAL" ∷ [])

abbrev pub is_shape_kind : List ℕ → Bool
is_shape_kind = is_one_of (codes "GEOMETRY" ∷ codes "POINT" ∷ codes "LINESTRING" ∷ codes "POLYGON" ∷ codes "GEOMETRYCOLLECTION" ∷ codes "GEOMCOLLECTION" ∷ [])

abbrev pub is_many_shapes_kind : List ℕ → Bool
is_many_shapes_kind = is_one_of (codes "MULTIPOINT" ∷ codes "MULTILINESTRING" ∷ codes "MULTIPOLYGON" ∷ [])

abbrev pub is_integer_synonym : List ℕ → Bool
is_integer_synonym = is_one_of (codes "INT1" ∷ codes "INT2" ∷ codes "INT3" ∷ codes "INT4" ∷ codes "INT8" ∷ codes "MIDDLEINT" ∷ [])

-- the name of a kind that this program doesn't have
unfoldable pub is_other_kind : List ℕ → Bool
is_other_kind name = is_fraction_kind name || is_time_kind name || is_character_kind name || is_long_kind name || is_text_kind name || is_choice_kind name || is_shape_kind name || is_many_shapes_kind name || is_integer_synonym name

-- a word that begins no item of a table, whatever comes after it
unfoldable pub is_no_item : Token → Bool
is_no_item word = is_unquoted word.class && (is_constraint word.text || is_extension word.text)

-- a word that begins no item in this version: in version 1 AUTO_INCREMENT too, which in version 2 is a name like others there
abbrev pub begins_no_item : ℕ → Token → Bool
begins_no_item version word = is_no_item word || (is_keyword word (codes "AUTO_INCREMENT") && not (has_counters version))

-- What a text is refused with where these words stand in a place where the first of them doesn't fit: it is a word of MySQL's CREATE TABLE that this program doesn't take, or AUTO_INCREMENT, or it is a mistake.
unfoldable pub mismatch : List Token → SchemaCode
mismatch [] = Syntax
mismatch (word ∷ rest) = if is_no_item word || (is_unquoted word.class && is_other_kind word.text) then Scope else (if is_keyword word (codes "AUTO_INCREMENT") then AutoIncrement else Syntax)

-- AUTO_INCREMENT where it doesn't fit: out of version 1's scope, and a mistake in version 2.
abbrev pub in_version : ℕ → SchemaCode → SchemaCode
in_version version AutoIncrement = if has_counters version then Syntax else Scope
in_version version code = code
