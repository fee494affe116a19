-- *Altered schema*: what the clauses of an ALTER make of a schema, one after the other, and where the values of the new columns come from.
use Rattle.std.specs.Prelude.{ℕ, ◌==◌, Bool, true, false, not, ◌&&◌, List, [], ◌∷◌, length, unwrap_or, Option, Some, None, Result, Ok}
use Rattle.std.specs.List.{list_all, slice_get}
use Rattle.base_values.specs.declared.value.Value.{Value}
use Rattle.base_values.specs.declared.value.Value.TheVariants.{Null}
use Rattle.base_values.specs.declared.gho_schema.schema.Column.{Column}
use Rattle.base_values.specs.declared.gho_schema.schema.Index.{Index}
use Rattle.base_values.specs.declared.gho_schema.schema.Schema.{Schema}
use Rattle.base_values.specs.declared.row_conversion.clause.Clause.{Clause}
use Rattle.base_values.specs.declared.row_conversion.clause.Clause.TheVariants.{Add, Drop, Rename, Change, AddIndex, DropIndex}
use Rattle.base_values.specs.declared.row_conversion.map.MapColumn.{MapColumn}
use Rattle.base_values.specs.declared.row_conversion.map.Origin.{Origin}
use Rattle.base_values.specs.declared.row_conversion.map.Origin.TheVariants as from
use Rattle.base_values.specs.SchemaRules.Results.{◌>>=◌}
use Rattle.base_values.specs.GhoSchema.ClusteredKey.{is_not_null, clustered_key}
use Rattle.base_values.specs.SchemaRules.Reasons.{Reasons, first_reason, unless}
use Rattle.sql_change.specs.declared.code.AlterCode.{AlterCode}
use Rattle.sql_change.specs.declared.code.AlterCode.TheVariants as codes
use Rattle.sql_change.specs.declared.so_far.AlteredSoFar.{AlteredSoFar}
use Rattle.sql_change.specs.ClauseResults.{added, dropped, renamed, changed}
use Rattle.sql_change.specs.IndexClauses.{indexed, unindexed}
use Rattle.sql_change.specs.AlteredSoFar.{start}

-- one clause, on the table that those before it leave
unfoldable pub step : Bool → AlteredSoFar → Clause → Result AlteredSoFar AlterCode
step approve standing (Add column column_position) = added standing column column_position
step approve standing (Drop name) = dropped standing name
step approve standing (Rename old new) = renamed approve standing old new
step approve standing (Change old column column_position) = changed approve standing old column column_position
step approve standing (AddIndex name columns) = indexed standing name columns
step approve standing (DropIndex name) = unindexed standing name

-- the clauses from left to right, up to the first that is refused
unfoldable pub steps : Bool → AlteredSoFar → List Clause → Result AlteredSoFar AlterCode
steps approve standing [] = Ok standing
steps approve standing (clause ∷ clauses) = do
  next ← step approve standing clause
  steps approve next clauses

-- ---- the result

-- the column's values come from the old column at this place
abbrev pub is_origin : Option (Option ℕ) → ℕ → Bool
is_origin (Some (Some place)) before = place == before
is_origin (Some None) before = false
is_origin None before = false

-- the columns at the first places are, one by one, the old columns at the others
unfoldable pub same_columns : List (Option ℕ) → List ℕ → List ℕ → Bool
same_columns origins [] [] = true
same_columns origins [] (before ∷ others) = false
same_columns origins (place ∷ places) [] = false
same_columns origins (place ∷ places) (before ∷ others) = is_origin (slice_get origins place) before && same_columns origins places others

-- the clustered key has the columns that it had, and none of them may be null
abbrev pub keeps_key : AlteredSoFar → Option Index → Option Index → Bool
keeps_key standing (Some old) (Some new) = same_columns standing.origins new.places old.places && list_all (λ place. is_not_null (slice_get standing.schema.columns place)) new.places
keeps_key standing old new = false

-- A table without columns comes first, then one whose clustered key is another or may be null.
abbrev pub result_reasons : Schema → AlteredSoFar → Reasons AlterCode
result_reasons old standing =
    (length standing.schema.columns == 0, codes.AllColumnsDropped)
    ∷ (not (keeps_key standing (clustered_key old) (clustered_key standing.schema)), codes.ClusteredKeyChange)
    ∷ []

-- an added column's values are its default
abbrev pub source_of : Option ℕ → Option Value → Origin
source_of (Some place) default = from.Old place
source_of None default = from.Added (unwrap_or default Null)

-- where the values of each column come from
unfoldable pub map_of : List Column → List (Option ℕ) → List MapColumn
map_of (column ∷ columns) (origin ∷ origins) = record { kind = column.kind; nullable = column.nullable; origin = source_of origin column.default } ∷ map_of columns origins
map_of columns origins = []

abbrev pub result_of : Schema → AlteredSoFar → Result (Schema × List MapColumn) AlterCode
result_of old standing = unless (first_reason (result_reasons old standing)) (Ok (standing.schema, map_of standing.schema.columns standing.origins))

-- The new schema and the map of its columns, or why the ALTER is refused; `approve` lets columns get other names.
unfoldable pub altered : Bool → Schema → List Clause → Result (Schema × List MapColumn) AlterCode
altered approve schema clauses = do
  standing ← steps approve (start schema) clauses
  result_of schema standing
