-- What one column of an UPDATE is set to.
use Rattle.std.specs.Prelude.{ℕ, Option, Some, None, Result, Ok, Err}
use Rattle.base_values.specs.declared.value.Value.{Value}
use Rattle.base_values.specs.declared.unfit.Unfit.{Unfit}
use Rattle.base_values.specs.declared.row_conversion.conversion_fault.UnfitAt.{UnfitAt}

-- what the column at a place is set to, where it is, or that it refuses its value
abbrev pub set_at : ℕ → Option (Result Value Unfit) → Result (Option Value) UnfitAt
set_at place None = Ok None
set_at place (Some (Ok value)) = Ok (Some value)
set_at place (Some (Err reason)) = Err (record { column = place; unfit = reason })
