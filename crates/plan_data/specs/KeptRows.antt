-- What an ALTER keeps of a table's rows.
use Rattle.std.specs.Prelude.{◌≡◌, true, List, Ok}
use Rattle.base_values.specs.declared.value.Value.{Value}
use Rattle.base_values.specs.declared.gho_schema.schema.Schema.{Schema}
use Rattle.base_values.specs.GhoSchema.Rows.{key_of, key_places}
use Rattle.base_values.specs.GhoSchema.Tables.{IsRow, clash}
use Rattle.base_values.specs.RowConversion.ConvertedRows.{converted_row}
use Rattle.plan_data.specs.PlanData.{Altered}

-- *Keeps the rows*: the table's name; of a row that can be converted, the clustered key; that converted rows are rows of the
-- new columns; and that converted rows clash only where their rows do.
pub record KeepsRows (schema : Schema) (new : Altered) : Type 0 where
  pub name : new.0.name ≡ schema.name
  pub key : (row made : List Value) → IsRow schema.columns row → converted_row new.1 row ≡ Ok made → key_of (key_places new.0) made ≡ key_of (key_places schema) row
  pub apart : (row other made others : List Value) → IsRow schema.columns row → IsRow schema.columns other → converted_row new.1 row ≡ Ok made → converted_row new.1 other ≡ Ok others → clash new.0.uniques made others ≡ true
      → clash schema.uniques row other ≡ true
