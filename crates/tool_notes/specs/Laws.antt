-- What holds of checkpoint rows. The functions of the module `laws` prove each.
use Rattle.std.specs.Prelude.{◌≡◌, ℕ, ◌<◌, ◌^◌, List, Some}
use Rattle.std.specs.List.{AllByRecursion}
use Rattle.base_values.specs.declared.value.Value.{Value}
use Rattle.sql_grammar.specs.WordValues.ReadBack.{IsLiteral}
use Rattle.tool_changelog.specs.declared.checkpoint.Reach.{Reach}
use Rattle.tool_changelog.specs.declared.checkpoint.Reach.TheVariants.{Nothing, To, All}
use Rattle.tool_notes.specs.declared.checkpoint.Checkpoint.{Checkpoint}
use Rattle.tool_changelog.specs.Checkpoints.{checkpoint_row}
use Rattle.tool_notes.specs.Readings.{checkpoint_of}

-- the key, where there is one, has only texts, bytes and numbers of at most 38 digits; a key of a clustered index has no null
abbrev pub IsWritten : Reach → Type 0
IsWritten Nothing = Unit {0}
IsWritten (To key) = AllByRecursion IsLiteral key
IsWritten All = Unit {0}

-- What is read from a row is a checkpoint whose row it is.
abbrev pub ReadHasRow : Type 0
ReadHasRow = (row : List Value) (found : Checkpoint) → checkpoint_of row ≡ Some found → checkpoint_row found.position found.reach ≡ Some row

-- The row of a checkpoint is read as this checkpoint.
abbrev pub RowsAreRead : Type 0
RowsAreRead =
    (position : ℕ) (reach : Reach) (row : List Value)
    → position < 2 ^ 64 → IsWritten reach → checkpoint_row position reach ≡ Some row → checkpoint_of row ≡ Some (record { position = position; reach = reach })
