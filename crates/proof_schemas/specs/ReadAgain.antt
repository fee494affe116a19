-- Which schemas the printed text gives again. The functions of `law_texts::schemas` prove each.
use Rattle.std.specs.Prelude.{◌≡◌, ℕ, ◌<◌, ◌≤◌, Bool, true, false, not, ◌||◌, List, [], ◌∷◌, ◌++◌, length, is_some, Option, Some, None, Ok}
use Rattle.std.specs.List.{filter_map, list_all, AllByRecursion}
use Rattle.base_values.specs.declared.gho_schema.schema.Column.{Column}
use Rattle.base_values.specs.declared.gho_schema.schema.Index.{Index}
use Rattle.base_values.specs.declared.gho_schema.schema.Schema.{Schema}
use Rattle.base_values.specs.SchemaRules.Defaults.{defaults_fit}
use Rattle.base_values.specs.SchemaRules.Names.{names_differ}
use Rattle.base_values.specs.SchemaRules.Valid.{IsValid}
use Rattle.base_values.specs.SchemaRules.Limits.{is_column_name, is_table_name, is_reserved}
use Rattle.base_values.specs.ToolNames.{is_tool_name}
use Rattle.sql_show.specs.SchemaText.{printed_schema}
use Rattle.sql_create.specs.CreateText.{schema_at}
use Rattle.base_values.specs.GhoSchema.AutoIncrement.{auto_place, IsCounting}
use Rattle.proof_schemas.specs.Printed.Laws.{CanPrint, FitsVersion}

-- the key has a name, so it isn't the PRIMARY KEY
abbrev pub HasName : Index → Type 0
HasName index = is_some index.name ≡ true

-- none of the unique keys but the first may be the PRIMARY KEY
abbrev pub PrimaryStandsFirst : List Index → Type 0
PrimaryStandsFirst [] = Unit {0}
PrimaryStandsFirst (first ∷ others) = AllByRecursion HasName others

-- the names of the keys that have one
abbrev pub key_names : List Index → List (List ℕ)
key_names indexes = filter_map (λ index. index.name) indexes

-- a column that may be null has a default, which may be NULL
abbrev pub has_default : Column → Bool
has_default column = not column.nullable || is_some column.default

-- Names of valid lengths, where the table of this name is migrated, none of them kept for the migration's own tables; at most 8
-- unique keys and 8 others, of different names, the PRIMARY KEY in front; a default of each column that may be null, and defaults
-- that fit together.
pub record IsShaped (migrated : List ℕ) (schema : Schema) : Type 0 where
  pub name : is_table_name (is_tool_name migrated schema.name) schema.name ≡ true
  pub unreserved : is_reserved (is_tool_name migrated schema.name) schema.name ≡ false
  pub column_names : list_all (λ column. is_column_name column.name) schema.columns ≡ true
  pub few_uniques : length schema.uniques ≤ 8
  pub few_indexes : length schema.indexes ≤ 8
  pub primary : PrimaryStandsFirst schema.uniques
  pub named : AllByRecursion HasName schema.indexes
  pub key_names : names_differ (key_names schema.uniques ++ key_names schema.indexes) ≡ true
  pub has_defaults : AllByRecursion (λ column. has_default column ≡ true) schema.columns
  pub defaults : defaults_fit schema.columns ≡ true

-- a start is that of an AUTO_INCREMENT column, from 1 to the greatest of a BIGINT
abbrev pub MayStart : Option ℕ → Option ℕ → Type 0
MayStart place None = Unit {0}
MayStart None (Some start) = ⊥
MayStart (Some place) (Some start) = (1 ≤ start) × (start ≤ 9223372036854775807)

-- What CREATE TABLE gives besides a valid schema: the shape above, and an AUTO_INCREMENT column only where one may be.
pub record IsDeclared (migrated : List ℕ) (schema : Schema) : Type 0 where
  pub shaped : IsShaped migrated schema
  pub counting : IsCounting schema
  pub start : MayStart (auto_place schema) schema.start

-- The schema of the printed text is the schema that was printed.
abbrev pub PrintedSchemasAreReadAgain : Type 0
PrintedSchemasAreReadAgain = (version : ℕ) (migrated : List ℕ) (schema : Schema) → CanPrint schema → IsValid schema → IsDeclared migrated schema → FitsVersion version schema → schema_at version migrated (printed_schema schema) ≡ Ok schema

-- Every schema that is read is one of these.
abbrev pub ReadSchemasAreDeclared : Type 0
ReadSchemasAreDeclared = (version : ℕ) (migrated text : List ℕ) (schema : Schema) → schema_at version migrated text ≡ Ok schema → IsDeclared migrated schema

-- Every schema that is read of a text of bytes can be printed.
abbrev pub ReadSchemasCanPrint : Type 0
ReadSchemasCanPrint = (version : ℕ) (migrated text : List ℕ) (schema : Schema) → AllByRecursion (λ byte. byte < 256) text → schema_at version migrated text ≡ Ok schema → CanPrint schema

-- What is printed of a schema that was read of a text of bytes is read as that schema.
abbrev pub ReadSchemasAreReadAgain : Type 0
ReadSchemasAreReadAgain = (version : ℕ) (migrated text : List ℕ) (schema : Schema) → AllByRecursion (λ byte. byte < 256) text → schema_at version migrated text ≡ Ok schema → schema_at version migrated (printed_schema schema) ≡ Ok schema
