-- What a column stores of the DEFAULT that is written after it ("Data Type Default Values").
use Rattle.std.specs.Prelude.{ℕ, Bool, nat_le, if◌then◌else◌, List, length, sum_by, Option, Some, None, Result, Ok, Err}
use Rattle.std.specs.Fmt.{signed_decimal}
use Rattle.base_values.specs.declared.unfit.Unfit.{Unfit}
use Rattle.base_values.specs.declared.kind.Kind.{Kind}
use Rattle.base_values.specs.declared.value.Value.{Value}
use Rattle.base_values.specs.declared.value.Value.TheVariants.{Null, Num, Text, Blob}
use Rattle.base_values.specs.StoredValues.{stores}
use Rattle.base_values.specs.declared.gho_schema.schema.Column.{Column}

-- a stored default is there
abbrev pub stored : Result Value Unfit → Result (Option Value) Unfit
stored (Ok value) = Ok (Some value)
stored (Err reason) = Err reason

-- A column that may be null and has no DEFAULT has the default NULL; one that may not has none.
abbrev pub stored_default : Kind → Bool → Option Value → Result (Option Value) Unfit
stored_default kind nullable (Some value) = stored (stores value kind nullable)
stored_default kind nullable None = Ok (if nullable then Some Null else None)

-- a default that isn't stored is refused with this
abbrev pub default_or : {C : Type 0} → C → Result (Option Value) Unfit → Result (Option Value) C
default_or code (Ok default) = Ok default
default_or code (Err reason) = Err code

-- How many bytes a default counts: a number by its decimal text with its sign, a text by its UTF-8 bytes, NULL as 0 (this project's rule).
abbrev pub value_size : Value → ℕ
value_size Null = 0
value_size (Num number) = length (signed_decimal number)
value_size (Text text) = length text
value_size (Blob blob) = length blob

abbrev pub default_size : Option Value → ℕ
default_size (Some value) = value_size value
default_size None = 0

-- All defaults of a table together have at most 4,096 bytes (this project's rule).
unfoldable pub defaults_fit : List Column → Bool
defaults_fit columns = nat_le (sum_by (λ column. default_size column.default) columns) 4096
