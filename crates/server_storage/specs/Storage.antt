-- What contracts see of a storage.
use Rattle.std.specs.Prelude.{ℕ, List}
use Rattle.base_values.specs.declared.event.RowEvent.{RowEvent}
use Rattle.table_store.specs.Databases.{Database, StoredTable, database}
use Rattle.server_storage.specs.declared.open_txns.txns.OpenTxn.{OpenTxn}
use Rattle.server_storage.specs.OpenTxns.Open.{written_of}

-- the committed tables, and the open transactions over them
pub record StorageState : Type 0 where
  pub tables : List StoredTable
  pub txns : List OpenTxn

-- the committed tables
abbrev pub committed : StorageState → Database
committed storage = database storage.tables

-- what the open transaction of the session of this number wrote, in order
abbrev pub written : StorageState → ℕ → List RowEvent
written storage number = written_of number storage.txns
