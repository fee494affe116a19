-- The schema that a table as it is written declares, or the first reason to refuse it.
use Rattle.std.specs.Prelude.{ℕ, ◌+◌, Bool, true, not, ◌&&◌, ◌||◌, nat_lt, List, [], ◌∷◌, ◌++◌, length, map, filter, count_by, is_none, unwrap_or, None, Result, Ok}
use Rattle.std.specs.List.{list_all, list_any}
use Rattle.base_values.specs.declared.gho_schema.schema.Schema.{Schema}
use Rattle.base_values.specs.declared.gho_schema.schema.Column.{Column}
use Rattle.base_values.specs.declared.gho_schema.schema.Index.{Index}
use Rattle.sql_grammar.specs.declared.code.SchemaCode.{SchemaCode}
use Rattle.sql_grammar.specs.declared.code.SchemaCode.TheVariants.{RepeatedName, UnknownKeyColumn, NoClusteredKey, TooManyColumns, TooManyKeys, NameTooLong, ReservedName, BadDefault}
use Rattle.base_values.specs.SchemaRules.Results.{◌>>=◌}
use Rattle.sql_create.specs.declared.keys.NamedKeys.{NamedKeys}
use Rattle.sql_create.specs.declared.parts.Parts.{Parts}
use Rattle.sql_create.specs.declared.written.TableOptions.{TableOptions}
use Rattle.sql_create.specs.declared.written.WrittenColumn.{WrittenColumn}
use Rattle.sql_create.specs.declared.written.WrittenKey.{WrittenKey}
use Rattle.sql_create.specs.declared.written.WrittenTable.{WrittenTable}
use Rattle.base_values.specs.GhoSchema.ClusteredKey.{clustered_place}
use Rattle.base_values.specs.SchemaRules.Defaults.{stored_default, defaults_fit, default_or}
use Rattle.base_values.specs.SchemaRules.Names.{is_among, names_differ, places_of}
use Rattle.sql_create.specs.AutoColumn.{counting}
use Rattle.sql_create.specs.Keys.{named_keys}
use Rattle.base_values.specs.SchemaRules.Reasons.{Reasons, first_reason, unless}
use Rattle.base_values.specs.SchemaRules.Limits.{is_column_name, is_table_name, is_reserved}
use Rattle.base_values.specs.ToolNames.{is_tool_name}
use Rattle.sql_create.specs.Parts.{parts_of}

-- ---- names and limits

abbrev pub column_names : List WrittenColumn → List (List ℕ)
column_names columns = map (λ column. column.name) columns

-- Names of the table and its columns that are empty or too long come first, then a kept name, then too many columns or keys.
abbrev pub size_reasons : List ℕ → List ℕ → Parts → Reasons SchemaCode
size_reasons migrated name parts =
    (not (is_table_name (is_tool_name migrated name) name && list_all (λ column. is_column_name column.name) parts.columns), NameTooLong)
    ∷ (is_reserved (is_tool_name migrated name) name, ReservedName)
    ∷ (nat_lt 64 (length parts.columns), TooManyColumns)
    ∷ (nat_lt 8 (length parts.primaries + count_by (λ key. key.is_unique) parts.keys) || nat_lt 8 (count_by (λ key. not key.is_unique) parts.keys), TooManyKeys)
    ∷ []

-- the names of a key's columns are names of columns
abbrev pub are_known : List (List ℕ) → List (List ℕ) → Bool
are_known names columns = list_all (is_among names) columns

-- Then two columns, two PRIMARY KEYs or two keys of one name, then a key of no column.
abbrev pub name_reasons : List (List ℕ) → List (List (List ℕ)) → NamedKeys → Reasons SchemaCode
name_reasons names primaries named =
    (not (names_differ names) || nat_lt 1 (length primaries) || not (names_differ named.names), RepeatedName)
    ∷ (not (list_all (are_known names) primaries && list_all (λ key. are_known names key.text.columns) named.keys), UnknownKeyColumn)
    ∷ []

-- ---- columns

-- Columns of the PRIMARY KEY are NOT NULL, whatever is written after them ("CREATE TABLE Statement").
abbrev pub nullable_of : List (List (List ℕ)) → WrittenColumn → Bool
nullable_of primaries column = not (list_any (λ names. is_among names column.name) primaries) && unwrap_or column.attributes.plain.nullable true

-- a column, where it stores its default
unfoldable pub declared_column : List (List (List ℕ)) → WrittenColumn → Result Column SchemaCode
declared_column primaries column = do
  default ← default_or BadDefault (stored_default column.kind (nullable_of primaries column) column.attributes.plain.default)
  Ok (record { name = column.name; kind = column.kind; nullable = nullable_of primaries column; default = default; auto = column.attributes.plain.auto })

unfoldable pub declared_columns : List (List (List ℕ)) → List WrittenColumn → Result (List Column) SchemaCode
declared_columns primaries [] = Ok []
declared_columns primaries (column ∷ columns) = do
  first ← declared_column primaries column
  others ← declared_columns primaries columns
  Ok (first ∷ others)

-- ---- the schema

abbrev pub primary_index : List (List ℕ) → List (List ℕ) → Index
primary_index names columns = record { name = None; places = places_of names columns }

abbrev pub key_index : List (List ℕ) → WrittenKey → Index
key_index names key = record { name = key.text.name; places = places_of names key.text.columns }

-- the PRIMARY KEY comes before the other unique keys, which stand as they are declared
unfoldable pub schema_of : List ℕ → List ℕ → List (List ℕ) → List (List (List ℕ)) → List WrittenKey → List Column → Schema
schema_of name comment names primaries keys columns = record {
  name = name;
  columns = columns;
  uniques = map (primary_index names) primaries ++ map (key_index names) (filter (λ key. key.is_unique) keys);
  indexes = map (key_index names) (filter (λ key. not key.is_unique) keys);
  comment = comment;
  start = None;
}

-- Then a default that isn't stored, or defaults that are too long together, then a table without a clustered key.
abbrev pub clustered : Schema → Result Schema SchemaCode
clustered schema = unless (first_reason ((not (defaults_fit schema.columns), BadDefault) ∷ (is_none (clustered_place schema), NoClusteredKey) ∷ [])) (Ok schema)

-- At last a column that may not have AUTO_INCREMENT, or a number at which it can't start.
abbrev pub keyed : List ℕ → TableOptions → List (List ℕ) → List (List (List ℕ)) → NamedKeys → List Column → Result Schema SchemaCode
keyed name options names primaries named columns = clustered (schema_of name options.comment names primaries named.keys columns) >>= counting options.start

abbrev pub built : List ℕ → TableOptions → List (List ℕ) → List (List (List ℕ)) → List WrittenColumn → NamedKeys → Result Schema SchemaCode
built name options names primaries columns named = unless (first_reason (name_reasons names primaries named)) (declared_columns primaries columns >>= keyed name options names primaries named)

abbrev pub declared_parts : List ℕ → List ℕ → TableOptions → Parts → Result Schema SchemaCode
declared_parts migrated name options parts = unless (first_reason (size_reasons migrated name parts)) (built name options (column_names parts.columns) parts.primaries parts.columns (named_keys (column_names parts.columns) parts.keys))

-- The schema that the table declares, as one of a plan that migrates the table of this name.
unfoldable pub declared : List ℕ → WrittenTable → Result Schema SchemaCode
declared migrated table = declared_parts migrated table.name table.options (parts_of table.items)
