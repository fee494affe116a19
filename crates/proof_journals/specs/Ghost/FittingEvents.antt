-- Events that fit the tables as they then are.
use Rattle.std.specs.Prelude.{ℕ, List, [], ◌∷◌}
use Rattle.base_values.specs.declared.event.RowEvent.{RowEvent}
use Rattle.server_locks.specs.declared.row_locks.lock.Lock.{Lock}
use Rattle.table_store.specs.Databases.{Database, find_table, with_change}
use Rattle.proof_journals.specs.Ghost.Rows.Moments.{Fits}
use Rattle.server_model.specs.Operations.{change_table}
use Rattle.server_model.specs.LockedRows.Agreement.{Agree}
use Rattle.server_model.specs.LockedRows.Databases.{IsWellFormedDatabase, WhereFound}

-- *Each event fits the tables as they then are*: what it takes out is there, and what it writes is a row that clashes with
-- none.
unfoldable pub EventsFit : Database → List RowEvent → Type 0
EventsFit tables [] = Unit {0}
EventsFit tables (event ∷ events) =
    WhereFound (λ table. Fits table.schema table.rows event.change) (find_table event.table tables) × EventsFit (with_change event.table (change_table event.change) tables) events

-- *Fitting under locks*: what was written fits every well-formed database that agrees with this one under the names and locks.
pub record IsFitting (names : List (List ℕ)) (locks : List Lock) (writes : List RowEvent) (tables : Database) : Type 0 where
  pub each : (other : Database) → IsWellFormedDatabase other → Agree names locks tables other → EventsFit other writes
