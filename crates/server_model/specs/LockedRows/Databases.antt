-- Databases whose tables are well formed; events that are covered by names and locks; and jobs that make rows of their table.
use Rattle.std.specs.Prelude.{◌≡◌, ℕ, true, List, Option, Some, None}
use Rattle.std.specs.List.{AllByRecursion, list_any}
use Rattle.std.specs.Str.{bytes_eq}
use Rattle.base_values.specs.declared.event.RowEvent.{RowEvent}
use Rattle.base_values.specs.declared.event.Change.{Change}
use Rattle.server_locks.specs.declared.row_locks.lock.Lock.{Lock}
use Rattle.table_store.specs.Databases.{TableRows, Database, find_table}
use Rattle.server_model.specs.Operations.{Operation}
use Rattle.server_model.specs.LockedRows.Coverage.{IsWellFormedTable, IsSound, RowsCovered, rows_of}

abbrev pub WhereFound : (TableRows → Type 0) → Option TableRows → Type 0
WhereFound P None = Unit {0}
WhereFound P (Some table) = P table

-- each table that is found is well formed
pub record IsWellFormedDatabase (tables : Database) : Type 0 where
  pub each : (name : List ℕ) → WhereFound IsWellFormedTable (find_table name tables)

-- a table's change puts and removes rows whose points are among the locks
abbrev pub ChangeCovered : List Lock → Change → TableRows → Type 0
ChangeCovered locks change table = RowsCovered table.schema locks (rows_of change)

-- each event is of a table that is named, and covered by the locks
pub record EventCovered (names : List (List ℕ)) (locks : List Lock) (tables : Database) (event : RowEvent) : Type 0 where
  pub named : list_any (bytes_eq event.table) names ≡ true
  pub covered : WhereFound (ChangeCovered locks event.change) (find_table event.table tables)

abbrev pub EventsCovered : List (List ℕ) → List Lock → Database → List RowEvent → Type 0
EventsCovered names locks tables events = AllByRecursion (EventCovered names locks tables) events

-- the task's work makes rows of its table
abbrev pub TaskSound : Operation → Database → Type 0
TaskSound task tables = WhereFound (λ table. IsSound table.schema.columns (task.work table.schema)) (find_table task.table tables)
