-- What each clause but those on indexes makes of the table, or the first reason to refuse it ("ALTER TABLE Statement").
use Rattle.std.specs.Prelude.{ℕ, nat_le, Bool, true, false, not, is_some, ◌&&◌, ◌||◌, if◌then◌else◌, List, [], ◌∷◌, length, unwrap_or, Option, Some, None, Result, Ok, Err, slice_set}
use Rattle.std.specs.List.{remove}
use Rattle.base_values.specs.declared.gho_schema.schema.Column.{Column}
use Rattle.base_values.specs.declared.gho_schema.schema.Schema.{Schema}
use Rattle.base_values.specs.GhoSchema.AutoIncrement.{is_widest}
use Rattle.base_values.specs.GhoSchema.Names.{same_name}
use Rattle.base_values.specs.declared.row_conversion.clause.NewColumn.{NewColumn}
use Rattle.base_values.specs.declared.row_conversion.clause.ColumnPosition.{ColumnPosition}
use Rattle.base_values.specs.SchemaRules.Results.{◌>>=◌}
use Rattle.base_values.specs.SchemaRules.Reasons.{Reasons, first_reason, unless}
use Rattle.base_values.specs.SchemaRules.Limits.{is_column_name}
use Rattle.sql_change.specs.declared.code.AlterCode.{AlterCode}
use Rattle.sql_change.specs.declared.code.AlterCode.TheVariants as codes
use Rattle.sql_change.specs.declared.so_far.AlteredSoFar.{AlteredSoFar}
use Rattle.sql_change.specs.Columns.{has_column, column_named, is_in_keys, is_in_primary, is_column_position, column_position_place, column_of, fitting, is_key_conversion, is_conversion}
use Rattle.sql_change.specs.AlteredSoFar.{put_in, taken_out, moved_to, origin_at}

-- ---- ADD

abbrev pub add_reasons : List Column → NewColumn → ColumnPosition → Reasons AlterCode
add_reasons columns written column_position =
    (not (is_column_position columns column_position), codes.UnknownName)
    ∷ (has_column columns written.name, codes.RepeatedName)
    ∷ (nat_le 64 (length columns) || not (is_column_name written.name) || written.auto, codes.Scope)
    ∷ []

-- A column without NULL or NOT NULL may be null ("CREATE TABLE Statement").
unfoldable pub added : AlteredSoFar → NewColumn → ColumnPosition → Result AlteredSoFar AlterCode
added standing written column_position = unless (first_reason (add_reasons standing.schema.columns written column_position)) (do
  column ← column_of None written (unwrap_or written.nullable true)
  fitting (put_in standing (column_position_place standing.schema.columns column_position (length standing.schema.columns)) column))

-- ---- DROP

abbrev pub dropped_at : AlteredSoFar → Option (ℕ × Column) → Result AlteredSoFar AlterCode
dropped_at standing None = Err codes.UnknownName
dropped_at standing (Some found) = if is_in_keys standing.schema.uniques found.0 then Err codes.KeyColumnDropped else Ok (taken_out standing found.0)

unfoldable pub dropped : AlteredSoFar → List ℕ → Result AlteredSoFar AlterCode
dropped standing name = dropped_at standing (column_named standing.schema.columns name)

-- ---- RENAME

-- another name than before, whatever the case of letters
abbrev pub is_unapproved : Bool → List ℕ → List ℕ → Bool
is_unapproved approve old new = not approve && not (same_name old new)

abbrev pub rename_reasons : Bool → List Column → ℕ → List ℕ → List ℕ → Reasons AlterCode
rename_reasons approve columns place old new =
    (has_column (remove columns place) new, codes.RepeatedName)
    ∷ (not (is_column_name new), codes.Scope)
    ∷ (is_unapproved approve old new, codes.RenameNotApproved)
    ∷ []

-- the column with another name
abbrev pub with_name : Column → List ℕ → Column
with_name column new = record column { name = new }

unfoldable pub renamed_in : AlteredSoFar → ℕ → Column → AlteredSoFar
renamed_in standing place column = record standing { schema = record standing.schema { columns = slice_set standing.schema.columns place column } }

abbrev pub renamed_at : Bool → AlteredSoFar → List ℕ → Option (ℕ × Column) → Result AlteredSoFar AlterCode
renamed_at approve standing new None = Err codes.UnknownName
renamed_at approve standing new (Some found) = unless (first_reason (rename_reasons approve standing.schema.columns found.0 found.1.name new)) (Ok (renamed_in standing found.0 (with_name found.1 new)))

unfoldable pub renamed : Bool → AlteredSoFar → List ℕ → List ℕ → Result AlteredSoFar AlterCode
renamed approve standing old new = renamed_at approve standing new (column_named standing.schema.columns old)

-- ---- CHANGE and MODIFY

-- A column neither gets nor loses AUTO_INCREMENT, and the one that has it becomes no BIGINT UNSIGNED and gets no DEFAULT (this
-- project's rule).
abbrev pub breaks_counter : Column → NewColumn → Bool
breaks_counter column written = if column.auto then not written.auto || is_widest written.kind || is_some written.default else written.auto

-- The column after which the changed one is to be put is one of the others, by their names; and none of these has its new name.
abbrev pub change_reasons : Schema → ℕ → Column → NewColumn → ColumnPosition → Reasons AlterCode
change_reasons schema place column written column_position =
    (not (is_column_position (remove schema.columns place) column_position), codes.UnknownName)
    ∷ (has_column (remove schema.columns place) written.name, codes.RepeatedName)
    ∷ (is_in_keys schema.uniques place && not (is_key_conversion column.kind written.kind), codes.KeyColumnConverted)
    ∷ (not (is_conversion column.kind written.kind) || not (is_column_name written.name) || breaks_counter column written, codes.Scope)
    ∷ []

-- a column of the PRIMARY KEY stays NOT NULL unless NULL is written
abbrev pub changed_nullable : Schema → ℕ → NewColumn → Bool
changed_nullable schema place written = unwrap_or written.nullable (not (is_in_primary schema.uniques place))

-- the changed column among the others, at the place it had where no other is said
abbrev pub changed_in : AlteredSoFar → ℕ → ColumnPosition → Column → AlteredSoFar
changed_in standing place column_position column = moved_to standing place (column_position_place (remove standing.schema.columns place) column_position place) column

-- a rename that isn't approved comes last
abbrev pub unless_unapproved : Bool → AlteredSoFar → Result AlteredSoFar AlterCode
unless_unapproved true standing = Err codes.RenameNotApproved
unless_unapproved false standing = Ok standing

abbrev pub changed_column : Bool → AlteredSoFar → ℕ → Column → NewColumn → ColumnPosition → Result AlteredSoFar AlterCode
changed_column approve standing place column written column_position =
    column_of (origin_at standing place) written (changed_nullable standing.schema place written) >>= λ new. (fitting (changed_in standing place column_position new) >>= λ changed. unless_unapproved (is_unapproved approve column.name written.name) changed)

abbrev pub changed_at : Bool → AlteredSoFar → NewColumn → ColumnPosition → Option (ℕ × Column) → Result AlteredSoFar AlterCode
changed_at approve standing written column_position None = Err codes.UnknownName
changed_at approve standing written column_position (Some found) = unless (first_reason (change_reasons standing.schema found.0 found.1 written column_position)) (changed_column approve standing found.0 found.1 written column_position)

unfoldable pub changed : Bool → AlteredSoFar → List ℕ → NewColumn → ColumnPosition → Result AlteredSoFar AlterCode
changed approve standing old written column_position = changed_at approve standing written column_position (column_named standing.schema.columns old)
