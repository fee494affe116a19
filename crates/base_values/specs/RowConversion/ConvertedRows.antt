-- What an ALTER makes of rows: *converted row* (MySQL's manual, "ALTER TABLE Statement", as one mapping of the whole table).
use Rattle.std.specs.Prelude.{◌≡◌, ℕ, ◌+◌, List, [], ◌∷◌, unwrap_or, Option, Some, Result, Ok, Err}
use Rattle.std.specs.List.{slice_get}
use Rattle.std.specs.Result.{result_ok}
use Rattle.base_values.specs.declared.value.Value.{Value}
use Rattle.base_values.specs.declared.value.Value.TheVariants.{Null}
use Rattle.base_values.specs.declared.unfit.Unfit.{Unfit}
use Rattle.base_values.specs.declared.fault.Fault.{Fault}
use Rattle.base_values.specs.declared.fault.Fault.TheVariants as faults
use Rattle.base_values.specs.StoredValues.{stores}
use Rattle.base_values.specs.GhoSchema.Options.{◌>>=◌}
use Rattle.base_values.specs.declared.row_conversion.map.MapColumn.{MapColumn}
use Rattle.base_values.specs.declared.row_conversion.map.Origin.{Origin}
use Rattle.base_values.specs.declared.row_conversion.map.Origin.TheVariants.{Old, Added}
use Rattle.base_values.specs.declared.row_conversion.conversion_fault.UnfitAt.{UnfitAt}

-- What a new column gets from a row before it stores it: the old value, or the added default. A row without the old
-- place has no value there, which is null.
abbrev pub source : Origin → List Value → Value
source (Old place) row = unwrap_or (slice_get row place) Null
source (Added value) row = value

-- a column's stored value before the others
abbrev pub before : Value → Result (List Value) UnfitAt → Result (List Value) UnfitAt
before value (Ok values) = Ok (value ∷ values)
before value (Err unfit) = Err unfit

-- the column's value, or that it is the first that refuses
abbrev pub value_first : ℕ → Result Value Unfit → Result (List Value) UnfitAt → Result (List Value) UnfitAt
value_first column (Ok value) others = before value others
value_first column (Err reason) others = Err (record { column = column; unfit = reason })

-- the converted row in the new columns from this place on
unfoldable pub converted_row_from : ℕ → List MapColumn → List Value → Result (List Value) UnfitAt
converted_row_from column [] row = Ok []
converted_row_from column (new ∷ others) row = value_first column (stores (source new.origin row) new.kind new.nullable) (converted_row_from (column + 1) others row)

-- *Image of a row*: what each new column stores, or the first new column that refuses and why.
abbrev pub converted_row : List MapColumn → List Value → Result (List Value) UnfitAt
converted_row map row = converted_row_from 0 map row

-- What the code answers for one column is what it stores, unless memory ran out.
abbrev pub Fits : ℕ → Result Value (Fault UnfitAt) → Result Value Unfit → Type 0
Fits column (Ok value) said = said ≡ Ok value
Fits column (Err faults.Memory) said = Unit {0}
Fits column (Err (faults.Refused unfit)) said = (said ≡ Err unfit.unfit) × (unfit.column ≡ column)

-- every row converted, where each can be
unfoldable pub converted_rows : List MapColumn → List (List Value) → Option (List (List Value))
converted_rows map [] = Some []
converted_rows map (row ∷ rows) = do
  first ← result_ok (converted_row map row)
  others ← converted_rows map rows
  Some (first ∷ others)
