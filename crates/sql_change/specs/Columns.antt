-- Columns by their names, where clauses put them, and what they store of their defaults.
use Rattle.std.specs.Prelude.{ℕ, ◌+◌, ◌==◌, Bool, true, false, ◌&&◌, if◌then◌else◌, List, position, is_none, is_some, Option, Some, None, Result, Ok, Err}
use Rattle.std.specs.List.{list_any, slice_get}
use Rattle.base_values.specs.declared.kind.Kind.{Kind}
use Rattle.base_values.specs.declared.kind.Kind.TheVariants.{Int, VarChar, VarBinary}
use Rattle.base_values.specs.declared.value.Value.{Value}
use Rattle.base_values.specs.declared.gho_schema.schema.Column.{Column}
use Rattle.base_values.specs.declared.gho_schema.schema.Index.{Index}
use Rattle.base_values.specs.GhoSchema.Names.{same_name}
use Rattle.base_values.specs.declared.row_conversion.clause.NewColumn.{NewColumn}
use Rattle.base_values.specs.declared.row_conversion.clause.ColumnPosition.{ColumnPosition}
use Rattle.base_values.specs.declared.row_conversion.clause.ColumnPosition.TheVariants.{Unsaid, First, After}
use Rattle.base_values.specs.SchemaRules.Results.{◌>>=◌}
use Rattle.base_values.specs.SchemaRules.Defaults.{stored_default, defaults_fit, default_or}
use Rattle.sql_change.specs.declared.code.AlterCode.{AlterCode}
use Rattle.sql_change.specs.declared.code.AlterCode.TheVariants as codes
use Rattle.sql_change.specs.declared.so_far.AlteredSoFar.{AlteredSoFar}

-- ---- names

-- the place of the column of this name, whatever the case of letters
unfoldable pub column_place : List Column → List ℕ → Option ℕ
column_place columns name = position (λ column. same_name column.name name) columns

abbrev pub has_column : List Column → List ℕ → Bool
has_column columns name = is_some (column_place columns name)

-- a column and its place
abbrev pub beside : ℕ → Option Column → Option (ℕ × Column)
beside place (Some column) = Some (place, column)
beside place None = None

abbrev pub found_at : List Column → Option ℕ → Option (ℕ × Column)
found_at columns (Some place) = beside place (slice_get columns place)
found_at columns None = None

-- the column of this name and its place
unfoldable pub column_named : List Column → List ℕ → Option (ℕ × Column)
column_named columns name = found_at columns (column_place columns name)

-- ---- keys

abbrev pub has_place : ℕ → Index → Bool
has_place place index = list_any (λ own. own == place) index.places

-- the column at this place is in one of the keys
unfoldable pub is_in_keys : List Index → ℕ → Bool
is_in_keys uniques place = list_any (has_place place) uniques

-- the column at this place is in the PRIMARY KEY
unfoldable pub is_in_primary : List Index → ℕ → Bool
is_in_primary uniques place = list_any (λ index. is_none index.name && has_place place index) uniques

-- ---- where clauses put columns

-- the column after which another is to be put is there
abbrev pub is_column_position : List Column → ColumnPosition → Bool
is_column_position columns Unsaid = true
is_column_position columns First = true
is_column_position columns (After name) = has_column columns name

-- the place after one; in front where there is none
abbrev pub following : Option ℕ → ℕ
following (Some place) = place + 1
following None = 0

-- where a column is put among the others; where nothing is said, at this place
unfoldable pub column_position_place : List Column → ColumnPosition → ℕ → ℕ
column_position_place columns Unsaid place = place
column_position_place columns First place = 0
column_position_place columns (After name) place = following (column_place columns name)

-- ---- defaults

-- an added column that may not be null has to have a default, since rows that exist have no value for it (this project's rule)
abbrev pub lacks_default : Option ℕ → Bool → Option Value → Bool
lacks_default None false None = true
lacks_default None false (Some value) = false
lacks_default None true default = false
lacks_default (Some place) nullable default = false

abbrev pub unless_lacking : Bool → Column → Result Column AlterCode
unless_lacking true column = Err codes.Default
unless_lacking false column = Ok column

-- the column that a clause writes, whose values come from there
unfoldable pub column_of : Option ℕ → NewColumn → Bool → Result Column AlterCode
column_of origin written nullable = do
  default ← default_or codes.Default (stored_default written.kind nullable written.default)
  unless_lacking (lacks_default origin nullable default) (record { name = written.name; kind = written.kind; nullable = nullable; default = default; auto = written.auto })

-- the defaults of a table fit together
abbrev pub fitting : AlteredSoFar → Result AlteredSoFar AlterCode
fitting standing = if defaults_fit standing.schema.columns then Ok standing else Err codes.Default

-- ---- conversions

-- A column of a unique key stays of its sort, so that values that differ stay apart (this project's rule).
abbrev pub is_key_conversion : Kind → Kind → Bool
is_key_conversion (Int bytes unsigned) (Int others unsigned_too) = true
is_key_conversion (VarChar limit) (VarChar other) = true
is_key_conversion (VarBinary limit) (VarBinary other) = true
is_key_conversion old new = false

-- What a column may be converted to: numbers to texts and bytes, and texts to bytes, besides its own sort (this project's rule).
abbrev pub is_conversion : Kind → Kind → Bool
is_conversion (Int bytes unsigned) new = true
is_conversion (VarChar limit) (Int bytes unsigned) = false
is_conversion (VarChar limit) (VarChar other) = true
is_conversion (VarChar limit) (VarBinary other) = true
is_conversion (VarBinary limit) (VarBinary other) = true
is_conversion (VarBinary limit) new = false
