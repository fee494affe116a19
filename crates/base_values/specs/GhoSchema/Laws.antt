-- What holds of all rows in order. The functions of the module `laws` prove each.
use Rattle.std.specs.Prelude.{◌≡◌, ℕ, List, Some}
use Rattle.std.specs.List.{AllByRecursion}
use Rattle.base_values.specs.declared.value.Value.{Value}
use Rattle.base_values.specs.declared.gho_schema.schema.Column.{Column}
use Rattle.base_values.specs.GhoSchema.Rows.{put}
use Rattle.base_values.specs.GhoSchema.Tables.{IsRow, Ascends}

-- A row that is put among rows of these columns leaves them rows of these columns, in order of the key.
abbrev pub PutKeepsOrder : Type 0
PutKeepsOrder =
    (columns : List Column) (places : List ℕ) (row : List Value) (rows new : List (List Value)) → AllByRecursion (IsRow columns) rows → Ascends places rows → IsRow columns row → put places row rows ≡ Some new
    → AllByRecursion (IsRow columns) new × Ascends places new
