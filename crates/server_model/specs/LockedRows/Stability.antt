-- *Stable*: lines of a transaction that have the same replies and writes on every database that agrees under its names and
-- locks. (This project's means of proof: what makes the server serial.)
use Rattle.std.specs.Prelude.{◌≡◌, ℕ, List}
use Rattle.server_locks.specs.declared.row_locks.lock.Lock.{Lock}
use Rattle.table_store.specs.Databases.{Database}
use Rattle.server_model.specs.declared.transaction.TxnLine.{TxnLine}
use Rattle.server_model.specs.Operations.{after_events}
use Rattle.server_model.specs.Alone.{Ran, lines_run, nothing_ran}
use Rattle.server_model.specs.LockedRows.Agreement.{Agree}
use Rattle.server_model.specs.LockedRows.Databases.{IsWellFormedDatabase}

-- the lines run so on this database, which they leave well formed
pub record RunSo (lines : List TxnLine) (ran : Ran) (tables : Database) : Type 0 where
  pub runs : lines_run tables nothing_ran lines ≡ ran
  pub well_formed : IsWellFormedDatabase (after_events tables ran.writes)

-- *Stable*: on every well-formed database that agrees with this one under the names and the locks, the lines run so.
pub record Stable (names : List (List ℕ)) (locks : List Lock) (lines : List TxnLine) (ran : Ran) (tables : Database) : Type 0 where
  pub each : (other : Database) → IsWellFormedDatabase other → Agree names locks tables other → RunSo lines ran other
