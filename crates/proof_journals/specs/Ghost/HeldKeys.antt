-- Which keys of a table a session holds by its row locks.
use Rattle.std.specs.Prelude.{◌≡◌, ℕ, ◌==◌, Bool, false, ◌&&◌, List, Option, Some, None}
use Rattle.std.specs.List.{list_any, slice_get}
use Rattle.std.specs.Str.{bytes_eq}
use Rattle.base_values.specs.declared.value.Value.{Value}
use Rattle.base_values.specs.Spans.{has}
use Rattle.base_values.specs.declared.gho_schema.schema.Schema.{Schema}
use Rattle.base_values.specs.declared.gho_schema.schema.Index.{Index}
use Rattle.base_values.specs.GhoSchema.ClusteredKey.{clustered_place}
use Rattle.base_values.specs.GhoSchema.Rows.{key_places}
use Rattle.server_locks.specs.declared.row_locks.lock.Lock.{Lock}

abbrev pub is_place : Option ℕ → ℕ → Bool
is_place None place = false
is_place (Some other) place = other == place

-- the lock is an exclusive one, on this key of the table's clustered key
abbrev pub locks_key : Schema → List Value → Lock → Bool
locks_key schema key lock = bytes_eq lock.table schema.name && (is_place (clustered_place schema) lock.key && (lock.exclusive && has lock.span key))

-- *Held*: one of the locks is an exclusive one on this key of the table.
unfoldable pub is_locked : Schema → List Lock → List Value → Bool
is_locked schema locks key = list_any (locks_key schema key) locks

-- the clustered key of a table that has one, and its place among the unique keys
pub record Clustered (schema : Schema) : Type 0 where
  pub place : ℕ
  pub index : Index
  pub at : clustered_place schema ≡ Some place
  pub there : slice_get schema.uniques place ≡ Some index
  pub its : key_places schema ≡ index.places
