-- What holds of every open transaction.
use Rattle.std.specs.Prelude.{◌≡◌, ℕ, true, false, List, [], ◌∷◌, ◌++◌, Ok}
use Rattle.std.specs.List.{AllByRecursion, list_any}
use Rattle.std.specs.Str.{bytes_eq}
use Rattle.base_values.specs.declared.gho_schema.schema.Schema.{Schema}
use Rattle.base_values.specs.declared.event.RowEvent.{RowEvent}
use Rattle.table_store.specs.Databases.{Database, has_table, without_table, rename_tables}
use Rattle.table_store.specs.declared.renames.Pair.{Pair}
use Rattle.server_model.specs.Operations.{after_events}
use Rattle.server_model.specs.States.{pair_names}
use Rattle.server_model.specs.LockedRows.Coverage.{IsWellFormedTable}
use Rattle.server_model.specs.LockedRows.Databases.{IsWellFormedDatabase}
use Rattle.server_transaction.specs.FittingEvents.{EventsFit, NoneOf}
use Rattle.server_transaction.specs.Premises.{HasSchema, IsOf}
use Rattle.server_transaction.specs.Stored.{StoredTxn, schemas, schemas_with}

-- *Transactions begin*: one that wrote nothing is one of every well-formed database.
abbrev pub TransactionsBegin : Type 0
TransactionsBegin = (tables : Database) (txn : StoredTxn) → txn.events ≡ [] → txn.tables ≡ [] → IsWellFormedDatabase tables → IsOf tables txn

-- *Transactions grow*: one of a database stays so, where what it writes to a table that exists fits the tables as it sees them
-- and leaves them well formed.
abbrev pub TransactionsGrow : Type 0
TransactionsGrow =
    (tables : Database) (was now : StoredTxn) (schema : Schema) (more : List RowEvent) → IsOf tables was → HasSchema tables schema → EventsFit (after_events tables was.events) more → IsWellFormedDatabase (after_events (after_events tables was.events) more)
    → now.events ≡ was.events ++ more → schemas now.tables ≡ schemas_with schema (schemas was.tables) → IsOf tables now

-- *Transactions outlast commits*: one of a database is one of it after another one's events, where its own still fit and leave
-- the tables well formed.
abbrev pub TransactionsOutlastCommits : Type 0
TransactionsOutlastCommits =
    (tables : Database) (events : List RowEvent) (txn : StoredTxn) → IsOf tables txn → EventsFit (after_events tables events) txn.events → IsWellFormedDatabase (after_events (after_events tables events) txn.events) → IsOf (after_events tables events) txn

-- the transaction has an event of each table to which it wrote
abbrev pub HasEvents : StoredTxn → Type 0
HasEvents txn = AllByRecursion (λ schema. list_any (λ event. bytes_eq event.table schema.name) txn.events ≡ true) (schemas txn.tables)

-- *Transactions outlast new tables*: one of a database is one of it with a table more, of a name that none had.
abbrev pub TransactionsOutlastCreations : Type 0
TransactionsOutlastCreations =
    (tables : Database) (schema : Schema) (txn : StoredTxn) → IsWellFormedDatabase tables → IsOf tables txn → IsWellFormedTable (record { schema = schema; rows = [] }) → has_table schema.name tables ≡ false → IsOf (tables ++ record { schema = schema; rows = [] } ∷ []) txn

-- *Transactions outlast drops*: one of a database is one of it without a table to which it didn't write.
abbrev pub TransactionsOutlastDrops : Type 0
TransactionsOutlastDrops = (tables : Database) (name : List ℕ) (txn : StoredTxn) → IsWellFormedDatabase tables → IsOf tables txn → HasEvents txn → NoneOf (name ∷ []) txn.events → IsOf (without_table name tables) txn

-- *Transactions outlast renames* of tables to none of which they wrote.
abbrev pub TransactionsOutlastRenames : Type 0
TransactionsOutlastRenames = (pairs : List Pair) (tables after : Database) (txn : StoredTxn) → IsWellFormedDatabase tables → IsOf tables txn → HasEvents txn → NoneOf (pair_names pairs) txn.events → rename_tables pairs tables ≡ Ok after → IsOf after txn
