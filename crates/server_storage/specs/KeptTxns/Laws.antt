-- What keeps the committed tables and the open transactions over them.
use Rattle.std.specs.Prelude.{◌≡◌, ◌≤◌, ◌+◌, ◌==◌, ℕ, false, List, [], ◌∷◌, length, ◌++◌, Some, None, Ok, IsSome, IfSome}
use Rattle.std.specs.Option.{option_map}
use Rattle.base_values.specs.declared.gho_schema.schema.Schema.{Schema}
use Rattle.table_store.specs.Databases.{StoredTable, database, spare_in, spares, has_table, rename_tables, others as other_tables}
use Rattle.table_store.specs.declared.renames.Pair.{Pair}
use Rattle.server_model.specs.Operations.{after_events}
use Rattle.server_model.specs.States.{pair_names}
use Rattle.server_model.specs.LockedRows.Coverage.{IsWellFormedTable}
use Rattle.server_model.specs.LockedRows.Databases.{IsWellFormedDatabase}
use Rattle.server_transaction.specs.FittingEvents.{EventsFit, NoneOf}
use Rattle.server_transaction.specs.Premises.{HasSchema}
use Rattle.server_transaction.specs.Rooms.{puts_in}
use Rattle.server_transaction.specs.Stored.{StoredTxn, TableChanges, HasRoom, events_in}
use Rattle.server_storage.specs.declared.open_txns.txns.OpenTxn.{OpenTxn}
use Rattle.server_storage.specs.OpenTxns.Open.{txn_of, others, written_of, puts_open, IsOpened, IsReserved, IsWritten}
use Rattle.server_storage.specs.KeptTxns.Kept.{IsKept, IsReadyWrites, MayBeCommitted, IsKeptOn, IsKeptWith}

-- WHAT A STATEMENT DOES

-- *Beginning keeps*: well-formed tables without an open transaction.
abbrev pub BeginningKeeps : Type 0
BeginningKeeps = (tables : List StoredTable) → IsWellFormedDatabase (database tables) → IsKept tables []

-- *Opening keeps*: where a session that has no open transaction gets one.
abbrev pub OpeningKeeps : Type 0
OpeningKeeps = (tables : List StoredTable) (number : ℕ) (before after : List OpenTxn) → IsKept tables before → txn_of number before ≡ None → IsOpened number before after → IsKeptOn tables before after

-- *Reserving keeps*: where a session's transaction gets more room.
abbrev pub ReservingKeeps : Type 0
ReservingKeeps = (tables : List StoredTable) (number : ℕ) (before after : List OpenTxn) → IsKept tables before → IsReserved number before after → IsKeptOn tables before after

-- *Making room keeps*: where the table of one name gets more room.
abbrev pub MakingRoomKeeps : Type 0
MakingRoomKeeps =
    (name : List ℕ) (was now : List StoredTable) (txns : List OpenTxn) → IsKept was txns → database now ≡ database was → spare_in name was ≤ spare_in name now → other_tables name now ≡ other_tables name was → IsKept now txns

-- *Room makes ready*: writes are ready, where the session's transaction has room for them, their table exists with their
-- schema, something is written, and the table has room for this many rows more than all open commits put.
abbrev pub RoomMakesReady : Type 0
RoomMakesReady =
    (tables : List StoredTable) (txns : List OpenTxn) (number count : ℕ) (writes : TableChanges) → IsKept tables txns → IsSome (txn_of number txns) → IfSome (txn_of number txns) (λ one. HasRoom one.txn writes) → HasSchema (database tables) writes.schema
    → (length writes.changes == 0) ≡ false → ((name : List ℕ) → puts_open name txns ≤ count) → count + length writes.changes ≤ spare_in writes.schema.name tables → IsReadyWrites tables txns number writes

-- *Writing keeps*: where writes that are ready, fit and leave the tables well formed are written.
abbrev pub WritingKeeps : Type 0
WritingKeeps =
    (tables : List StoredTable) (number : ℕ) (writes : TableChanges) (before after : List OpenTxn) → IsKept tables before → IsReadyWrites tables before number writes → EventsFit (after_events (database tables) (written_of number before)) (events_in writes)
    → IsWellFormedDatabase (after_events (after_events (database tables) (written_of number before)) (events_in writes)) → IsWritten number writes before after → IsKeptWith number (written_of number before ++ events_in writes) tables before after

-- WHAT ENDS A TRANSACTION

-- *What is kept may be committed*: the open transaction of each session.
abbrev pub KeptMayBeCommitted : Type 0
KeptMayBeCommitted = (tables : List StoredTable) (number : ℕ) (txn : StoredTxn) (txns : List OpenTxn) → IsKept tables txns → Some txn ≡ option_map (λ one. one.txn) (txn_of number txns) → MayBeCommitted tables txn

-- *Committing keeps*: where the session's transaction is committed, and what each other one wrote fits the tables as they then
-- are and leaves them well formed.
abbrev pub CommittingKeeps : Type 0
CommittingKeeps =
    (was now : List StoredTable) (number : ℕ) (txn : StoredTxn) (txns : List OpenTxn) → IsKept was txns → Some txn ≡ option_map (λ one. one.txn) (txn_of number txns) → database now ≡ after_events (database was) txn.events
    → ((name : List ℕ) → spare_in name was ≤ spare_in name now + puts_in name txn.events) → ((other : ℕ) → (other == number) ≡ false → EventsFit (after_events (database was) (written_of number txns)) (written_of other txns))
    → ((other : ℕ) → (other == number) ≡ false → IsWellFormedDatabase (after_events (after_events (database was) (written_of number txns)) (written_of other txns))) → IsKeptWith number [] now txns (others number txns)

-- *Rolling back keeps*: where the session's transaction, if it has one, is taken out.
abbrev pub RollingBackKeeps : Type 0
RollingBackKeeps = (tables : List StoredTable) (number : ℕ) (txns : List OpenTxn) → IsKept tables txns → IsKeptWith number [] tables txns (others number txns)

-- WHAT CHANGES WHICH TABLES THERE ARE

-- *Creating keeps*: where a table without rows, of a schema that a table may have, stands after the others.
abbrev pub CreatingKeeps : Type 0
CreatingKeeps =
    (tables : List StoredTable) (schema : Schema) (new : StoredTable) (txns : List OpenTxn) → IsKept tables txns → IsWellFormedTable (record { schema = schema; rows = [] }) → has_table schema.name (database tables) ≡ false
    → new.table.schema ≡ schema → new.table.rows ≡ [] → IsKept (tables ++ new ∷ []) txns

-- *Dropping keeps*: where the table of a name, to which no session wrote, is taken out.
abbrev pub DroppingKeeps : Type 0
DroppingKeeps = (tables : List StoredTable) (name : List ℕ) (txns : List OpenTxn) → IsKept tables txns → ((session : ℕ) → NoneOf (name ∷ []) (written_of session txns)) → IsKept (other_tables name tables) txns

-- *Renaming keeps*: where tables, to none of which a session wrote, have other names, and each has the room that it had.
abbrev pub RenamingKeeps : Type 0
RenamingKeeps =
    (pairs : List Pair) (was now : List StoredTable) (txns : List OpenTxn) → IsKept was txns → ((session : ℕ) → NoneOf (pair_names pairs) (written_of session txns)) → rename_tables pairs (database was) ≡ Ok (database now) → spares now ≡ spares was → IsKept now txns
