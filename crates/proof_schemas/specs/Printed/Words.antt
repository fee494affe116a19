-- The words of a schema's text.
use Rattle.std.specs.Prelude.{codes, ℕ, Bool, if◌then◌else◌, List, [], ◌∷◌, ◌++◌, map, Option, Some, None}
use Rattle.std.specs.Fmt.{decimal}
use Rattle.std.specs.List.{flat_map}
use Rattle.base_values.specs.declared.kind.Kind.{Kind}
use Rattle.base_values.specs.declared.kind.Kind.TheVariants.{Int, VarChar, VarBinary}
use Rattle.base_values.specs.declared.value.Value.{Value}
use Rattle.base_values.specs.declared.value.Value.TheVariants.{Null, Num, Text, Blob}
use Rattle.base_values.specs.Literals.{printed}
use Rattle.sql_words.specs.declared.word.WordClass.TheVariants as class
use Rattle.base_values.specs.declared.gho_schema.schema.Schema.{Schema}
use Rattle.base_values.specs.declared.gho_schema.schema.Column.{Column}
use Rattle.sql_grammar.specs.declared.token.Token.{Token}
use Rattle.sql_show.specs.SchemaText.{quoted, integer_name, column_name}

-- ---- words

abbrev pub keyword : List ℕ → Token
keyword text = record { class = class.Name; text = text }

abbrev pub name_word : List ℕ → Token
name_word name = record { class = class.Quoted; text = quoted name }

abbrev pub sign_word : List ℕ → Token
sign_word text = record { class = class.Sign; text = text }

abbrev pub number_word : List ℕ → Token
number_word text = record { class = class.Number; text = text }

-- ---- columns

abbrev pub length_words : List ℕ → ℕ → List Token
length_words name limit = keyword name ∷ sign_word (codes "(") ∷ number_word (decimal limit) ∷ sign_word (codes ")") ∷ []

abbrev pub kind_words : Kind → List Token
kind_words (Int bytes unsigned) = keyword (integer_name bytes) ∷ (if unsigned then keyword (codes "UNSIGNED") ∷ [] else [])
kind_words (VarChar limit) = length_words (codes "VARCHAR") limit
kind_words (VarBinary limit) = length_words (codes "VARBINARY") limit

abbrev pub null_words : Bool → List Token
null_words nullable = if nullable then [] else keyword (codes "NOT") ∷ keyword (codes "NULL") ∷ []

abbrev pub written_words : Value → List Token
written_words Null = []
written_words (Num number) = keyword (codes "DEFAULT") ∷ number_word (printed (Num number)) ∷ []
written_words (Text text) = keyword (codes "DEFAULT") ∷ record { class = class.Text; text = printed (Text text) } ∷ []
written_words (Blob blob) = keyword (codes "DEFAULT") ∷ record { class = class.Bytes; text = printed (Blob blob) } ∷ []

abbrev pub default_words : Option Value → List Token
default_words None = []
default_words (Some value) = written_words value

abbrev pub auto_words : Bool → List Token
auto_words auto = if auto then keyword (codes "AUTO_INCREMENT") ∷ [] else []

abbrev pub column_words : Column → List Token
column_words column = name_word column.name ∷ kind_words column.kind ++ null_words column.nullable ++ default_words column.default ++ auto_words column.auto

-- ---- keys

abbrev pub names_words : List Column → List ℕ → List Token
names_words columns [] = []
names_words columns (place ∷ places) = name_word (column_name columns place) ∷ flat_map (λ next. sign_word (codes ",") ∷ name_word (column_name columns next) ∷ []) places

abbrev pub places_words : List Column → List ℕ → List Token
places_words columns places = sign_word (codes "(") ∷ names_words columns places ++ sign_word (codes ")") ∷ []

abbrev pub unique_words : Option (List ℕ) → List Token
unique_words None = keyword (codes "PRIMARY") ∷ keyword (codes "KEY") ∷ []
unique_words (Some name) = keyword (codes "UNIQUE") ∷ keyword (codes "KEY") ∷ name_word name ∷ []

abbrev pub index_words : Option (List ℕ) → List Token
index_words None = keyword (codes "KEY") ∷ []
index_words (Some name) = keyword (codes "KEY") ∷ name_word name ∷ []

-- ---- the table

abbrev pub lines_words : Schema → List (List Token)
lines_words schema =
    map column_words schema.columns
    ++ map (λ index. unique_words index.name ++ places_words schema.columns index.places) schema.uniques
    ++ map (λ index. index_words index.name ++ places_words schema.columns index.places) schema.indexes

abbrev pub joined_words : List (List Token) → List Token
joined_words [] = []
joined_words (line ∷ lines) = line ++ flat_map (λ next. sign_word (codes ",") ∷ next) lines

abbrev pub start_words : Option ℕ → List Token
start_words None = []
start_words (Some number) = keyword (codes "AUTO_INCREMENT") ∷ sign_word (codes "=") ∷ number_word (decimal number) ∷ []

abbrev pub comment_words : List ℕ → List Token
comment_words [] = []
comment_words (byte ∷ bytes) = keyword (codes "COMMENT") ∷ sign_word (codes "=") ∷ record { class = class.Text; text = printed (Text (byte ∷ bytes)) } ∷ []

abbrev pub schema_words : Schema → List Token
schema_words schema = keyword (codes "CREATE") ∷ keyword (codes "TABLE") ∷ name_word schema.name ∷ sign_word (codes "(") ∷ joined_words (lines_words schema) ++ sign_word (codes ")") ∷ (start_words schema.start ++ comment_words schema.comment)
