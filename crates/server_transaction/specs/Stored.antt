-- What contracts see of a transaction, and of what one statement writes.
use Rattle.std.specs.Prelude.{◌≡◌, ◌≤◌, ◌+◌, ◌++◌, [], ◌∷◌, false, if◌then◌else◌, ℕ, List, length, map, Option, Some, None}
use Rattle.std.specs.List.{AllZip, list_any}
use Rattle.std.specs.Str.{bytes_eq}
use Rattle.base_values.specs.declared.value.Value.{Value}
use Rattle.base_values.specs.declared.gho_schema.schema.Schema.{Schema}
use Rattle.base_values.specs.GhoSchema.Rows.{key_places}
use Rattle.base_values.specs.declared.event.Change.{Change}
use Rattle.base_values.specs.declared.event.RowEvent.{RowEvent}
use Rattle.server_model.specs.Operations.{events_of}
use Rattle.server_seen.specs.Written.{Written, nothing}
use Rattle.server_seen.specs.Stored.{StoredWrites, written_in}
use Rattle.server_transaction.specs.declared.ready_changes.ReadyChange.{ReadyChange}
use Rattle.server_transaction.specs.Events.{changes_in, gone_key}
use Rattle.server_transaction.specs.Ready.{ready_change, wrote_each}
use Rattle.server_transaction.specs.Shown.{find_writes, Shows}

-- WHAT ONE STATEMENT WRITES

-- the changes of the rows of the table of this schema
pub record TableChanges : Type 0 where
  pub schema : Schema
  pub changes : List Change

-- ... as events
abbrev pub events_in : TableChanges → List RowEvent
events_in writes = events_of writes.schema.name writes.changes

-- What is made ready of changes: the events, and each change for itself.
pub record IsMade (writes : TableChanges) (events : List RowEvent) (ready : List ReadyChange) : Type 0 where
  pub events_are : events ≡ events_in writes
  pub ready_are : ready ≡ map (ready_change (key_places writes.schema)) writes.changes

-- WHAT A TRANSACTION WROTE

-- its events, what they wrote to each table, what is at hand for one table more, where nothing is written yet, and for how many
-- more events and tables there is room
pub record StoredTxn : Type 0 where
  pub events : List RowEvent
  pub tables : List StoredWrites
  pub fresh : Option StoredWrites
  pub event_room : ℕ
  pub table_room : ℕ

-- the schemas of the tables to which it wrote
abbrev pub schemas : List StoredWrites → List Schema
schemas tables = map (λ writes. writes.schema) tables

-- this is the key of the row that the event takes out, by the schema of its table, to which something was written
abbrev pub IsGone : RowEvent → Option (List Value) → Option StoredWrites → Type 0
IsGone event key None = ⊥
IsGone event key (Some writes) = key ≡ gone_key (key_places writes.schema) event.change

-- What was written to each table shows the changes of the table, and each event has its key.
pub record IsTxn (tables : List StoredWrites) (events : List RowEvent) (gone : List (Option (List Value))) : Type 0 where
  pub shown : (name : List ℕ) → Shows (changes_in name events) (find_writes name tables)
  pub keys : AllZip (λ event key. IsGone event key (find_writes event.table tables)) events gone

-- WHAT IT HAS ROOM FOR

-- *Fresh*: nothing is written to the table of this schema yet, and there is room for this many rows and keys.
pub record IsFresh (n : ℕ) (schema : Schema) (fresh : StoredWrites) : Type 0 where
  pub same : fresh.schema ≡ schema
  pub nothing_is : fresh.written ≡ nothing
  pub room : n ≤ fresh.spare

-- a fresh one is at hand
abbrev pub HasFresh : ℕ → Schema → Option StoredWrites → Type 0
HasFresh n schema None = ⊥
HasFresh n schema (Some fresh) = IsFresh n schema fresh

-- for this many rows and keys, in what was written to a table before; where nothing was, for one table more, and that is at hand
abbrev pub HasRoomFor : ℕ → Schema → Option StoredWrites → Option StoredWrites → ℕ → Type 0
HasRoomFor n schema None fresh tables = (1 ≤ tables) × HasFresh n schema fresh
HasRoomFor n schema (Some writes) fresh tables = n ≤ writes.spare

-- for what a statement writes: a change may touch two keys
pub record HasRoom (txn : StoredTxn) (writes : TableChanges) : Type 0 where
  pub events : length writes.changes ≤ txn.event_room
  pub table : HasRoomFor (length writes.changes + length writes.changes) writes.schema (find_writes writes.schema.name txn.tables) txn.fresh txn.table_room

-- WHAT IS WRITTEN TO A TABLE

-- what was written to a table, but for its room
pub record PlainWrites : Type 0 where
  pub schema : Schema
  pub written : Written

abbrev pub plain : StoredWrites → PlainWrites
plain writes = record { schema = writes.schema; written = writes.written }

-- the schemas with one more, where none has its name
abbrev pub schemas_with : Schema → List Schema → List Schema
schemas_with schema others = if list_any (λ other. bytes_eq other.name schema.name) others then others else others ++ schema ∷ []

-- What was written to the table of this name is this now, and to all other tables what it was.
pub record IsMore (name : List ℕ) (tables now : List StoredWrites) (writes : StoredWrites) : Type 0 where
  pub there : find_writes name now ≡ Some writes
  pub others : (other : List ℕ) → bytes_eq name other ≡ false → find_writes other now ≡ find_writes other tables
  pub schema : (was : StoredWrites) → find_writes name tables ≡ Some was → was.schema ≡ writes.schema

-- *Written to a table* of this schema: the changes are written there after what was written before, and nothing else changed.
pub record IsWrittenTo (schema : Schema) (ready : List ReadyChange) (tables now : List StoredWrites) : Type 0 where
  pub writes : StoredWrites
  pub more : IsMore schema.name tables now writes
  pub same : writes.schema ≡ schema
  pub written_is : writes.written ≡ wrote_each (key_places schema) ready (written_in (find_writes schema.name tables))
  pub schemas_are : schemas now ≡ schemas_with schema (schemas tables)
