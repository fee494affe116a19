-- How keys, and what was written to a table, are stored: what contracts see of them.
use Rattle.std.specs.Prelude.{◌≡◌, ℕ, zero, suc, ◌≤◌, List, [], ◌∷◌, length, Option, Some, None}
use Rattle.std.specs.List.{AllByRecursion}
use Rattle.base_values.specs.declared.value.Value.{Value}
use Rattle.base_values.specs.declared.gho_schema.schema.Schema.{Schema}
use Rattle.base_values.specs.GhoSchema.Rows.{key_places}
use Rattle.table_store.specs.Databases.{TableRows}
use Rattle.server_seen.specs.Written.{Written, nothing}
use Rattle.server_seen.specs.FittingChanges.{IsWritten}

-- keys, how many values each has at most, and for how many more keys there is room
pub record StoredKeys : Type 0 where
  pub keys : List (List Value)
  pub width : ℕ
  pub spare : ℕ

-- this many numbers from this one on
abbrev pub counted : ℕ → ℕ → List ℕ
counted from zero = []
counted from (suc n) = from ∷ counted (suc from) n

-- A table whose rows are keys: its clustered key has the columns from the first on, and no row has more values.
pub record IsKeyTable (table : TableRows) : Type 0 where
  pub places : key_places table.schema ≡ counted 0 (length (key_places table.schema))
  pub lengths : AllByRecursion (λ key. length key ≤ length (key_places table.schema)) table.rows

-- what was written to a table of this schema, and for how many more rows and keys there is room
pub record StoredWrites : Type 0 where
  pub schema : Schema
  pub written : Written
  pub spare : ℕ

-- what was written, where there is anything
abbrev pub written_in : Option StoredWrites → Written
written_in None = nothing
written_in (Some writes) = writes.written

-- the keys are those of the schema's clustered key
pub record IsStored (schema : Schema) (width : ℕ) (written : Written) : Type 0 where
  pub width_is : width ≡ length (key_places schema)
  pub is_written : IsWritten (key_places schema) written
