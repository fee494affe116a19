-- What an UPDATE makes of one row.
use Rattle.std.specs.Prelude.{◌≡◌, ℕ, true, if◌then◌else◌, List}
use Rattle.std.specs.List.{AllByRecursion}
use Rattle.base_values.specs.declared.value.Value.{Value}
use Rattle.base_values.specs.declared.gho_schema.schema.Schema.{Schema}
use Rattle.base_values.specs.GhoSchema.Tables.{Ascends}
use Rattle.server_model.specs.Rows.{same_row, stands}
use Rattle.server_model.specs.StatementResults.{clashes_besides}
use Rattle.server_execute.specs.declared.updates.RowUpdate.{RowUpdate}
use Rattle.server_execute.specs.declared.updates.RowUpdate.TheVariants.{Same, Clashes, Becomes}

-- of an old row of these and its new row: it stays as it is, or its new row clashes with one besides it, or it becomes the new row
abbrev pub row_update : Schema → List Value → List Value → List (List Value) → RowUpdate
row_update schema old new rows = if same_row old new then Same else (if clashes_besides schema new old rows then Clashes else Becomes)

-- the rows are some of those of a table, in order of the key at these places
pub record AreMet (places : List ℕ) (met rows : List (List Value)) : Type 0 where
  pub ascends : Ascends places met
  pub stand : AllByRecursion (λ row. stands row rows ≡ true) met
