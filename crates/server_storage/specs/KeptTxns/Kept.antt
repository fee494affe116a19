-- What the committed tables and the open transactions over them keep.
use Rattle.std.specs.Prelude.{◌≡◌, ◌≤◌, ◌+◌, ◌==◌, ℕ, false, List, length, IsSomeAnd}
use Rattle.std.specs.List.{AllByRecursion}
use Rattle.base_values.specs.declared.event.RowEvent.{RowEvent}
use Rattle.table_store.specs.Databases.{StoredTable, database, spare_in}
use Rattle.server_model.specs.LockedRows.Databases.{IsWellFormedDatabase}
use Rattle.server_transaction.specs.Premises.{HasSchema, IsOf}
use Rattle.server_transaction.specs.Rooms.{puts_in}
use Rattle.server_transaction.specs.Stored.{StoredTxn, TableChanges, events_in}
use Rattle.server_storage.specs.declared.open_txns.txns.OpenTxn.{OpenTxn}
use Rattle.server_storage.specs.OpenTxns.Open.{txn_of, written_of, puts_open, OneEach, Takes}
use Rattle.server_storage.specs.KeptTxns.Transactions.{HasEvents}

-- *Kept*: the committed tables are well formed, each session has at most one open transaction, each is one of the database and
-- has an event of each table to which it wrote, and each table has room for what all open commits put.
pub record IsKept (tables : List StoredTable) (txns : List OpenTxn) : Type 0 where
  pub well_formed : IsWellFormedDatabase (database tables)
  pub one_each : OneEach txns
  pub of : AllByRecursion (λ one. IsOf (database tables) one.txn) txns
  pub events : AllByRecursion (λ one. HasEvents one.txn) txns
  pub room : (name : List ℕ) → puts_open name txns ≤ spare_in name tables

-- *Ready*: the session's open transaction takes the writes, their table exists with their schema, something is written, and the
-- table has room for them beside what all open commits put.
pub record IsReadyWrites (tables : List StoredTable) (txns : List OpenTxn) (number : ℕ) (writes : TableChanges) : Type 0 where
  pub takes : IsSomeAnd (txn_of number txns) (λ one. Takes writes one.txn)
  pub has : HasSchema (database tables) writes.schema
  pub some : (length writes.changes == 0) ≡ false
  pub room : (name : List ℕ) → puts_open name txns + puts_in name (events_in writes) ≤ spare_in name tables

-- *May be committed*: the transaction is one of the database, and each table has room for what its commit puts.
pub record MayBeCommitted (tables : List StoredTable) (txn : StoredTxn) : Type 0 where
  pub of : IsOf (database tables) txn
  pub room : (name : List ℕ) → puts_in name txn.events ≤ spare_in name tables

-- *Kept on*: what is kept is kept, and each session wrote what it wrote before.
pub record IsKeptOn (tables : List StoredTable) (before after : List OpenTxn) : Type 0 where
  pub kept : IsKept tables after
  pub written : (session : ℕ) → written_of session after ≡ written_of session before

-- *Kept with*: what is kept is kept, the session of this number wrote this, and each other one what it wrote before.
pub record IsKeptWith (number : ℕ) (wrote : List RowEvent) (tables : List StoredTable) (before after : List OpenTxn) : Type 0 where
  pub kept : IsKept tables after
  pub own : written_of number after ≡ wrote
  pub others : (other : ℕ) → (other == number) ≡ false → written_of other after ≡ written_of other before
