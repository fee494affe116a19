-- What is made ready to be written.
use Rattle.std.specs.Prelude.{ℕ, List, Option, Some, None}
use Rattle.table_store.specs.Databases.{StoredTable}
use Rattle.server_transaction.specs.Stored.{TableChanges}
use Rattle.server_storage.specs.declared.open_txns.txns.OpenTxn.{OpenTxn}
use Rattle.server_storage.specs.KeptTxns.Kept.{IsReadyWrites}

-- *Made ready*: nothing, or changes of a table for which the session's open transaction and the table have room
abbrev pub AreReady : List StoredTable → List OpenTxn → ℕ → Option TableChanges → Type 0
AreReady tables txns number None = Unit {0}
AreReady tables txns number (Some writes) = IsReadyWrites tables txns number writes
