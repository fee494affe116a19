-- When two lists of rows, and two databases, are the same as far as locks reach.
use Rattle.std.specs.Prelude.{◌≡◌, ◌⊎◌, ℕ, Bool, true, ◌&&◌, List, [], ◌∷◌, Option, Some, None}
use Rattle.std.specs.List.{AllByRecursion, list_any, slice_get}
use Rattle.std.specs.Str.{bytes_eq}
use Rattle.base_values.specs.declared.value.Value.{Value}
use Rattle.base_values.specs.declared.gho_schema.schema.Schema.{Schema}
use Rattle.server_locks.specs.declared.row_locks.lock.Lock.{Lock}
use Rattle.table_store.specs.Databases.{TableRows, Database, find_table}
use Rattle.server_model.specs.Rows.{lies_under, stands}

-- the row lies under the lock
abbrev pub covers : Schema → List Value → Lock → Bool
covers schema row lock = bytes_eq lock.table schema.name && lies_under (slice_get schema.uniques lock.key) lock.span row

-- the row lies under one of the locks
unfoldable pub is_under : Schema → List Lock → List Value → Bool
is_under schema locks row = list_any (covers schema row) locks

-- the two lists have the same rows among those that pass
abbrev pub SameWhere : (List Value → Bool) → List (List Value) → List (List Value) → Type 0
SameWhere test a b = (row : List Value) → test row ≡ true → stands row a ≡ stands row b

-- two tables of one name have one schema, and the same rows under the locks; or neither exists
abbrev pub TablesAgree : List Lock → Option TableRows → Option TableRows → Type 0
TablesAgree locks None None = Unit {0}
TablesAgree locks (Some a) (Some b) = (a.schema ≡ b.schema) × SameWhere (is_under a.schema locks) a.rows b.rows
TablesAgree locks a b = ⊥

-- *Agree*: under the names, the two databases have tables of the same schemas with the same rows under the locks
pub record Agree (names : List (List ℕ)) (locks : List Lock) (a b : Database) : Type 0 where
  pub tables : (name : List ℕ) → list_any (bytes_eq name) names ≡ true → TablesAgree locks (find_table name a) (find_table name b)

-- the lock is one of these
abbrev pub Among : Lock → List Lock → Type 0
Among lock [] = ⊥
Among lock (first ∷ locks) = (lock ≡ first) ⊎ Among lock locks

-- each of the locks is one of those
abbrev pub Within : List Lock → List Lock → Type 0
Within some all = AllByRecursion (λ lock. Among lock all) some
