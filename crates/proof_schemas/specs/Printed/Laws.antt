-- What holds of the printed text of schemas. The functions of `law_texts::schemas` prove each.
use Rattle.std.specs.Prelude.{codes, ◌≡◌, ℕ, ◌<◌, ◌==◌, ◌^◌, true, false, if◌then◌else◌, List, ◌∷◌, ◌++◌, map, Option, Some, None, Ok, Bool, ℤ, pos, is_some, unsigned_abs}
use Rattle.std.specs.Str.{bytes_eq}
use Rattle.std.specs.List.{AllByRecursion}
use Rattle.base_values.specs.declared.kind.Kind.{Kind}
use Rattle.base_values.specs.declared.kind.Kind.TheVariants.{Int, VarChar, VarBinary}
use Rattle.base_values.specs.declared.value.Value.{Value}
use Rattle.base_values.specs.declared.value.Value.TheVariants.{Null, Num, Text, Blob}
use Rattle.base_values.specs.declared.gho_schema.schema.Schema.{Schema}
use Rattle.base_values.specs.declared.gho_schema.schema.Column.{Column}
use Rattle.base_values.specs.declared.gho_schema.schema.Index.{Index}
use Rattle.sql_grammar.specs.declared.token.Token.{Token}
use Rattle.sql_grammar.specs.Tokens.{text_words}
use Rattle.sql_grammar.specs.Versions.{has_counters}
use Rattle.sql_create.specs.declared.written.WrittenColumn.{WrittenColumn}
use Rattle.sql_create.specs.Columns.{column_at}
use Rattle.sql_create.specs.declared.written.Item.{Item}
use Rattle.sql_create.specs.declared.written.Item.TheVariants as items
use Rattle.sql_create.specs.declared.written.WrittenTable.{WrittenTable}
use Rattle.base_values.specs.SchemaRules.Valid.{is_kind, IsValid}
use Rattle.sql_create.specs.Written.{written}
use Rattle.sql_show.specs.SchemaText.{column_name, printed_schema}
use Rattle.proof_schemas.specs.Printed.Words.{sign_word, column_words, schema_words}

-- a name that can be between backquotes
abbrev pub CanQuote : List ℕ → Type 0
CanQuote name = AllByRecursion (λ byte. (byte == 96) ≡ false) name

abbrev pub CanQuoteKey : Option (List ℕ) → Type 0
CanQuoteKey None = Unit {0}
CanQuoteKey (Some name) = CanQuote name

-- a length has at most 38 digits
abbrev pub CanPrintKind : Kind → Type 0
CanPrintKind (Int bytes unsigned) = Unit {0}
CanPrintKind (VarChar limit) = limit < 10 ^ 38
CanPrintKind (VarBinary limit) = limit < 10 ^ 38

-- a number has at most 38 digits, and bytes are bytes
abbrev pub CanPrintValue : Value → Type 0
CanPrintValue Null = Unit {0}
CanPrintValue (Num number) = unsigned_abs number < 10 ^ 38
CanPrintValue (Text text) = Unit {0}
CanPrintValue (Blob blob) = AllByRecursion (λ byte. byte < 256) blob

abbrev pub CanPrintDefault : Option Value → Type 0
CanPrintDefault None = Unit {0}
CanPrintDefault (Some value) = CanPrintValue value

abbrev pub CanPrintColumn : Column → Type 0
CanPrintColumn column = CanQuote column.name × CanPrintKind column.kind × CanPrintDefault column.default

abbrev pub CanPrintStart : Option ℕ → Type 0
CanPrintStart None = Unit {0}
CanPrintStart (Some number) = number < 10 ^ 38

-- names without backquotes, and numbers and bytes that can be written
pub record CanPrint (schema : Schema) : Type 0 where
  pub name : CanQuote schema.name
  pub columns : AllByRecursion CanPrintColumn schema.columns
  pub uniques : AllByRecursion (λ index. CanQuoteKey index.name) schema.uniques
  pub indexes : AllByRecursion (λ index. CanQuoteKey index.name) schema.indexes
  pub start : CanPrintStart schema.start

-- The words of a schema's text are these, and it has no fault.
abbrev pub PrintedSchemasHaveWords : Type 0
PrintedSchemasHaveWords = (schema : Schema) → CanPrint schema → text_words (printed_schema schema) ≡ record { words = schema_words schema; is_faulty = false }

-- ---- versions

-- a column has AUTO_INCREMENT only in a version that has it
abbrev pub MayCountIn : ℕ → Bool → Type 0
MayCountIn version auto = auto ≡ true → has_counters version ≡ true

-- a plan of this version may have the schema
pub record FitsVersion (version : ℕ) (schema : Schema) : Type 0 where
  pub columns : AllByRecursion (λ column. MayCountIn version column.auto) schema.columns
  pub start : MayCountIn version (is_some schema.start)

-- ---- reading a column back

-- a default as it is printed: NULL isn't
abbrev pub printed_value : Value → Option Value
printed_value Null = None
printed_value (Num number) = Some (Num number)
printed_value (Text text) = Some (Text text)
printed_value (Blob blob) = Some (Blob blob)

abbrev pub default_read : Option Value → Option Value
default_read None = None
default_read (Some value) = printed_value value

-- what a column's line says: nothing of NULL where it may be null
abbrev pub line_of : Column → WrittenColumn
line_of column = record {
  name = column.name;
  kind = column.kind;
  attributes = record { plain = record { nullable = if column.nullable then None else Some false; default = default_read column.default; auto = column.auto }; is_primary = false; is_unique = false };
}

-- The words of a column's line are read as that column, up to the comma or the parenthesis after it.
abbrev pub PrintedColumnsAreRead : Type 0
PrintedColumnsAreRead =
    (version : ℕ) (column : Column) (sign : List ℕ) (rest : List Token) → CanPrintColumn column → MayCountIn version column.auto → is_kind column.kind ≡ true → bytes_eq sign (codes "(") ≡ false
    → column_at version (column_words column ++ sign_word sign ∷ rest) ≡ Ok (line_of column, sign_word sign ∷ rest)

-- ---- reading a table back

abbrev pub names_read : List Column → List ℕ → List (List ℕ)
names_read columns places = map (column_name columns) places

abbrev pub unique_read : List Column → Index → Option (List ℕ) → Item
unique_read columns index None = items.Primary (names_read columns index.places)
unique_read columns index (Some name) = items.Key (record { is_unique = true; text = record { name = Some name; columns = names_read columns index.places } })

abbrev pub index_read : List Column → Index → Item
index_read columns index = items.Key (record { is_unique = false; text = record { name = index.name; columns = names_read columns index.places } })

-- the number at which the AUTO_INCREMENT column starts, as a number of the text
abbrev pub start_read : Option ℕ → Option ℤ
start_read None = None
start_read (Some number) = Some (pos number)

-- the columns, the unique keys and the other keys, as the lines say them
abbrev pub table_read : Schema → WrittenTable
table_read schema = record {
  name = schema.name;
  items = map (λ column. items.Column (line_of column)) schema.columns ++ map (λ index. unique_read schema.columns index index.name) schema.uniques ++ map (index_read schema.columns) schema.indexes;
  options = record { comment = schema.comment; start = start_read schema.start };
}

-- The printed text of a valid schema is a CREATE TABLE of its columns and keys.
abbrev pub PrintedSchemasAreWritten : Type 0
PrintedSchemasAreWritten = (version : ℕ) (schema : Schema) → CanPrint schema → IsValid schema → FitsVersion version schema → written version (text_words (printed_schema schema)) ≡ Ok (table_read schema)
