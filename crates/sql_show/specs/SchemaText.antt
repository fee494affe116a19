-- *The text of a schema*, as SHOW CREATE TABLE has it, but for options and kinds that this program doesn't have (MySQL's manual, "SHOW CREATE TABLE Statement").
use Rattle.std.specs.Prelude.{codes, ℕ, ◌==◌, Bool, if◌then◌else◌, List, [], ◌∷◌, ◌++◌, map, Option, Some, None}
use Rattle.std.specs.Fmt.{decimal}
use Rattle.std.specs.List.{flat_map, slice_get}
use Rattle.base_values.specs.declared.kind.Kind.{Kind}
use Rattle.base_values.specs.declared.kind.Kind.TheVariants.{Int, VarChar, VarBinary}
use Rattle.base_values.specs.declared.value.Value.{Value}
use Rattle.base_values.specs.declared.value.Value.TheVariants.{Null, Num, Text, Blob}
use Rattle.base_values.specs.Literals.{printed}
use Rattle.base_values.specs.declared.gho_schema.schema.Schema.{Schema}
use Rattle.base_values.specs.declared.gho_schema.schema.Column.{Column}
use Rattle.base_values.specs.declared.gho_schema.schema.Index.{Index}

-- a name in backquotes
abbrev pub quoted : List ℕ → List ℕ
quoted name = codes "`" ++ name ++ codes "`"

-- an integer kind's name by its bytes
abbrev pub integer_name : ℕ → List ℕ
integer_name bytes =
    if bytes == 1 then codes "TINYINT"
    else (if bytes == 2 then codes "SMALLINT"
    else (if bytes == 3 then codes "MEDIUMINT"
    else (if bytes == 4 then codes "INT"
    else codes "BIGINT")))

unfoldable pub printed_kind : Kind → List ℕ
printed_kind (Int bytes unsigned) = integer_name bytes ++ (if unsigned then codes " UNSIGNED" else [])
printed_kind (VarChar limit) = codes "VARCHAR(" ++ decimal limit ++ codes ")"
printed_kind (VarBinary limit) = codes "VARBINARY(" ++ decimal limit ++ codes ")"

-- a default that is there and isn't null
abbrev pub written_default : Value → List ℕ
written_default Null = []
written_default (Num number) = codes " DEFAULT " ++ printed (Num number)
written_default (Text text) = codes " DEFAULT " ++ printed (Text text)
written_default (Blob blob) = codes " DEFAULT " ++ printed (Blob blob)

abbrev pub printed_default : Option Value → List ℕ
printed_default None = []
printed_default (Some value) = written_default value

-- the attribute that makes the column's values be drawn
abbrev pub printed_auto : Bool → List ℕ
printed_auto auto = if auto then codes " AUTO_INCREMENT" else []

-- a column's line
unfoldable pub column_line : Column → List ℕ
column_line column = quoted column.name ++ codes " " ++ printed_kind column.kind ++ (if column.nullable then [] else codes " NOT NULL") ++ printed_default column.default ++ printed_auto column.auto

-- the name of the column at this place
abbrev pub name_of : Option Column → List ℕ
name_of (Some column) = column.name
name_of None = []

abbrev pub column_name : List Column → ℕ → List ℕ
column_name columns place = name_of (slice_get columns place)

-- the names of a key's columns with a comma and a blank between them
unfoldable pub key_names : List Column → List ℕ → List ℕ
key_names columns [] = []
key_names columns (place ∷ places) = quoted (column_name columns place) ++ flat_map (λ next. codes ", " ++ quoted (column_name columns next)) places

-- a key's columns in parentheses
unfoldable pub key_columns : List Column → List ℕ → List ℕ
key_columns columns places = codes "(" ++ key_names columns places ++ codes ")"

-- the line of a unique key; the one without a name is the PRIMARY KEY
abbrev pub unique_front : Option (List ℕ) → List ℕ
unique_front None = codes "PRIMARY KEY "
unique_front (Some name) = codes "UNIQUE KEY " ++ quoted name ++ codes " "

unfoldable pub unique_line : List Column → Index → List ℕ
unique_line columns index = unique_front index.name ++ key_columns columns index.places

-- the line of another key
abbrev pub index_front : Option (List ℕ) → List ℕ
index_front None = codes "KEY "
index_front (Some name) = codes "KEY " ++ quoted name ++ codes " "

unfoldable pub index_line : List Column → Index → List ℕ
index_line columns index = index_front index.name ++ key_columns columns index.places

-- the columns, then the unique keys, then the others
abbrev pub lines_of : Schema → List (List ℕ)
lines_of schema = map column_line schema.columns ++ map (unique_line schema.columns) schema.uniques ++ map (index_line schema.columns) schema.indexes

-- each line after two blanks, with a comma after all but the last
unfoldable pub joined : List (List ℕ) → List ℕ
joined [] = []
joined (line ∷ lines) = codes "  " ++ line ++ flat_map (λ next. codes ",\n  " ++ next) lines

-- the number at which the AUTO_INCREMENT column starts, where it is written
abbrev pub printed_start : Option ℕ → List ℕ
printed_start None = []
printed_start (Some number) = codes " AUTO_INCREMENT=" ++ decimal number

-- the comment, where there is one
abbrev pub printed_comment : List ℕ → List ℕ
printed_comment [] = []
printed_comment (byte ∷ bytes) = codes " COMMENT=" ++ printed (Text (byte ∷ bytes))

unfoldable pub printed_schema : Schema → List ℕ
printed_schema schema = codes "CREATE TABLE " ++ quoted schema.name ++ codes " (\n" ++ joined (lines_of schema) ++ codes "\n)" ++ printed_start schema.start ++ printed_comment schema.comment ++ codes "\n"
