-- That a transaction is one of a database's: what it wrote fits the tables as they are.
use Rattle.std.specs.Prelude.{◌≡◌, List, [], IfSome, Option, Some, None}
use Rattle.std.specs.Option.{option_map}
use Rattle.std.specs.List.{AllByRecursion}
use Rattle.base_values.specs.declared.gho_schema.schema.Schema.{Schema}
use Rattle.base_values.specs.declared.value.Value.{Value}
use Rattle.base_values.specs.GhoSchema.Rows.{key_places}
use Rattle.base_values.specs.declared.event.RowEvent.{RowEvent}
use Rattle.table_store.specs.Databases.{Database, find_table}
use Rattle.server_model.specs.Operations.{after_events}
use Rattle.server_transaction.specs.FittingEvents.{EventsFit}
use Rattle.server_model.specs.LockedRows.Databases.{IsWellFormedDatabase}
use Rattle.server_transaction.specs.Events.{gone_key}
use Rattle.server_transaction.specs.Stored.{StoredTxn, events_in, schemas, TableChanges}

-- the table of the schema's name has this schema
abbrev pub HasSchema : Database → Schema → Type 0
HasSchema tables schema = option_map (λ table. table.schema) (find_table schema.name tables) ≡ Some schema

-- *A transaction of a database*: its events fit the tables and leave them well formed, and the tables to which it wrote exist
-- with the schemas that they had.
pub record IsOf (tables : Database) (txn : StoredTxn) : Type 0 where
  pub fit : EventsFit tables txn.events
  pub well_formed : IsWellFormedDatabase (after_events tables txn.events)
  pub stand : AllByRecursion (HasSchema tables) (schemas txn.tables)

-- this is the key of the row that the event takes out, by the schema of its table
abbrev pub IsGoneIn : Database → RowEvent → Option (List Value) → Type 0
IsGoneIn tables event key = IfSome (find_table event.table tables) (λ table. key ≡ gone_key (key_places table.schema) event.change)

-- the events of what a statement writes, where it writes something
abbrev pub events_ready : Option TableChanges → List RowEvent
events_ready None = []
events_ready (Some writes) = events_in writes
