-- What holds of every statement, and of every row that is copied.
use Rattle.std.specs.Prelude.{◌≡◌, ℕ, true, List}
use Rattle.std.specs.List.{AllByRecursion, list_any}
use Rattle.std.specs.Str.{bytes_eq}
use Rattle.base_script.specs.declared.statement.Statement.{Statement}
use Rattle.base_values.specs.declared.event.RowEvent.{RowEvent}
use Rattle.base_values.specs.declared.gho_schema.schema.Schema.{Schema}
use Rattle.base_values.specs.GhoSchema.Rows.{key_places}
use Rattle.base_values.specs.GhoSchema.Tables.{IsTable}
use Rattle.base_values.specs.declared.value.Value.{Value}
use Rattle.server_locks.specs.declared.row_locks.lock.Lock.{Lock}
use Rattle.table_store.specs.ClusteredKeys.{HasClusteredKey}
use Rattle.table_store.specs.Databases.{Database}
use Rattle.server_model.specs.declared.work.Work.{Work}
use Rattle.server_model.specs.Rows.{change_all}
use Rattle.server_model.specs.Checks.{work_of}
use Rattle.server_model.specs.StatementResults.{tells}
use Rattle.server_model.specs.Operations.{Operation, statement_result, operation_result, operation_needs, after_events}
use Rattle.server_model.specs.LockedRows.Agreement.{Agree, Within}
use Rattle.base_values.specs.SchemaRules.Valid.{StoresDefault}
use Rattle.server_model.specs.LockedRows.Coverage.{Apart, IsSound}
use Rattle.server_model.specs.LockedRows.Databases.{IsWellFormedDatabase, EventsCovered}

-- the two databases let the job say and need the same
pub record SaysAlike (operation : Operation) (a b : Database) : Type 0 where
  pub said : operation_result a operation ≡ operation_result b operation
  pub needed : operation_needs a operation ≡ operation_needs b operation

-- *Locked rows decide*: a job says and needs the same on every database that agrees under its table's name and the locks
-- that it needs.
abbrev pub LockedRowsDecide : Type 0
LockedRowsDecide = (names : List (List ℕ)) (locks : List Lock) (a b : Database) (operation : Operation) → Agree names locks a b → list_any (bytes_eq operation.table) names ≡ true → Within (operation_needs a operation) locks → IsWellFormedDatabase a → IsWellFormedDatabase b → SaysAlike operation a b

-- *Writes are covered*: each row that a job puts or removes is of its table, and lies under the locks that it needs.
abbrev pub WritesAreCovered : Type 0
WritesAreCovered = (names : List (List ℕ)) (locks : List Lock) (tables : Database) (operation : Operation) → list_any (bytes_eq operation.table) names ≡ true → Within (operation_needs tables operation) locks → EventsCovered names locks tables (operation_result tables operation).events

-- *A statement's work is sound*: its new rows are rows of the table, where the defaults fit their columns.
abbrev pub WorkIsSound : Type 0
WorkIsSound = (schema : Schema) (statement : Statement) → AllByRecursion (λ column. StoresDefault column column.default) schema.columns → IsSound schema.columns (work_of schema statement)

-- *Sound work keeps tables*: a table with a clustered key stays a table.
abbrev pub SoundWorkKeepsTables : Type 0
SoundWorkKeepsTables = (schema : Schema) → HasClusteredKey schema → (rows : List (List Value)) (work : Work) → IsSound schema.columns work → IsTable schema rows → IsTable schema (change_all (key_places schema) (tells schema rows work).changes rows)

-- *Statements keep databases*: a well-formed database stays one.
abbrev pub StatementsKeepDatabases : Type 0
StatementsKeepDatabases = (tables : Database) (statement : Statement) → IsWellFormedDatabase tables → IsWellFormedDatabase (after_events tables (statement_result tables statement).events)

-- *Others see the same*: what is covered by the one's locks changes nothing under the other's, where the locks stay apart.
abbrev pub OthersSeeTheSame : Type 0
OthersSeeTheSame = (names mine : List (List ℕ)) (own others : List Lock) (tables : Database) (events : List RowEvent) → Apart own others → EventsCovered mine own tables events → Agree names others tables (after_events tables events)
