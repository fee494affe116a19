-- What the applier's statements rest on, which name columns and are given values as a row of the table before has them.
use Rattle.std.specs.Prelude.{◌≡◌, ℕ, true, map, Some}
use Rattle.std.specs.List.{AllByRecursion, slice_get}
use Rattle.base_values.specs.declared.gho_schema.schema.Column.{Column}
use Rattle.base_values.specs.GhoSchema.Rows.{key_places}
use Rattle.base_values.specs.SchemaRules.Names.{names_differ}
use Rattle.base_values.specs.declared.row_conversion.map.Origin.TheVariants.{Old}
use Rattle.sql_change.specs.Columns.{is_key_conversion}
use Rattle.proof_journals.specs.Ghost.Rows.Timelines.{Migration, old_places}
use Rattle.proof_journals.specs.Ghost.Statements.{SameColumns}

-- the altered table's column at this place was a column before, of the same sort of values
pub record IsFrom (m : Migration) (place : ℕ) : Type 0 where
  pub column : Column
  pub here : slice_get m.new.columns place ≡ Some column
  pub before : ℕ
  pub mapped : slice_get m.columns place ≡ Some (record { kind = column.kind; nullable = column.nullable; origin = Old before })
  pub source : Column
  pub there : slice_get m.schema.columns before ≡ Some source
  pub same_sort : is_key_conversion source.kind column.kind ≡ true

-- *Finds rows*: the altered table's columns are the map's, and no two have one name; those of its unique keys were columns
-- before, and those of its clustered key are the columns of the clustered key before.
pub record FindsRows (m : Migration) : Type 0 where
  pub columns : SameColumns m.new.columns m.columns
  pub names : names_differ (map (λ column. column.name) m.new.columns) ≡ true
  pub keys : AllByRecursion (λ index. AllByRecursion (IsFrom m) index.places) m.new.uniques
  pub clustered : old_places m.columns (key_places m.new) ≡ key_places m.schema
